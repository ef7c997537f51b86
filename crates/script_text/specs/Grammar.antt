-- What a line of a script asks for, or the place where it leaves the grammar: that of the first word that doesn't fit, or the line's
-- length where a word is missing.
use Rattle.std.specs.Prelude.{◌≡◌, ℕ, ◌<◌, Bool, true, false, cond, nat_le, ◌==◌, List, [], ◌∷◌, codes, Option, Some, None, Result, Ok, Err}
use Rattle.std.specs.Str.{bytes_eq}
use Rattle.ccfs_base.specs.Fits.{fits_command}
use Rattle.ccfs_base.specs.Names.{path_of}
use Rattle.ccfs_base.specs.declared.commands.Command.{Command}
use Rattle.ccfs_base.specs.declared.commands.Command.TheVariants as command
use Rattle.script_text.specs.DataWords.{data_of}
use Rattle.script_text.specs.Numbers.{number_of}
use Rattle.script_text.specs.Words.{Word, Rest, rest_of}
use Rattle.script_text.specs.declared.verbs.Verb.{Verb}
use Rattle.script_text.specs.declared.verbs.Verb.TheVariants as verb
use Rattle.script_text.specs.declared.grammar.Line.{Line}
use Rattle.script_text.specs.declared.grammar.Line.TheVariants.{Skip, Call}

-- what the second step makes of what the first gave, or the place where the first leaves the grammar
infixl 10 ◌>>=◌
abbrev pub ◌>>=◌ : {A B : Type 0} → Result A ℕ → (A → Result B ℕ) → Result B ℕ
Ok x >>= f = f x
Err place >>= f = Err place

-- ---- words

-- what a word at a place is read as, beside the words that follow it; or its place, where it can't be read so
abbrev pub read_at : {A : Type 0} → ℕ → Option A → Rest → Result (A × Rest) ℕ
read_at place None rest = Err place
read_at place (Some x) rest = Ok (x, rest)

-- the first word as it is read, beside the words that follow it
abbrev pub first_of : {A : Type 0} → (List ℕ → Option A) → ℕ → List Word → Result (A × Rest) ℕ
first_of read end [] = Err end
first_of read end (w ∷ ws) = read_at w.place (read w.bytes) (record { words = ws; end = end })

abbrev pub first_as : {A : Type 0} → (List ℕ → Option A) → Rest → Result (A × Rest) ℕ
first_as read rest = first_of read rest.end rest.words

-- where the next word begins, if one follows
abbrev pub next_place : List Word → Option ℕ
next_place [] = None
next_place (w ∷ ws) = Some w.place

-- what was read, where no word follows; or the place of the next word
abbrev pub if_none : {A : Type 0} → A → Option ℕ → Result A ℕ
if_none x None = Ok x
if_none x (Some place) = Err place

abbrev pub ended : {A : Type 0} → A → Rest → Result A ℕ
ended x rest = if_none x (next_place rest.words)

-- a number, if it is at most `most`
abbrev pub at_most : ℕ → Option ℕ → Option ℕ
at_most most None = None
at_most most (Some n) = cond (nat_le n most) (Some n) None

-- the number that a word spells, where it is at most `most`: with 63 that of an actor or a stream
abbrev pub number_within : ℕ → List ℕ → Option ℕ
number_within most word = at_most most (number_of word)

-- a place in a file, a length, or how many names are left out: a number of at most 4,294,967,295
abbrev pub offset_of : List ℕ → Option ℕ
offset_of word = number_within 4294967295 word

-- ---- commands

-- a path alone: `/a`
abbrev pub path_alone : Rest → Result (List (List ℕ)) ℕ
path_alone rest = do
  path ← first_as path_of rest
  ended path.0 path.1

-- a handle alone: `3`
abbrev pub handle_alone : Rest → Result ℕ ℕ
handle_alone rest = do
  handle ← first_as (number_within 255) rest
  ended handle.0 handle.1

-- a path and a number below 2 ^ 32: `/a 7`
abbrev pub path_and_number : Rest → Result (List (List ℕ) × ℕ) ℕ
path_and_number rest = do
  path ← first_as path_of rest
  number ← first_as offset_of path.1
  ended (path.0, number.0) number.1

-- where bytes go and which they are: `7 0a0b`
abbrev pub place_and_bytes : Rest → Result (ℕ × List ℕ) ℕ
place_and_bytes rest = do
  off ← first_as offset_of rest
  bytes ← first_as data_of off.1
  ended (off.0, bytes.0) bytes.1

-- where bytes come from and how many they are, at most 4,096: `7 2`
abbrev pub place_and_count : Rest → Result (ℕ × ℕ) ℕ
place_and_count rest = do
  off ← first_as offset_of rest
  len ← first_as (number_within 4096) off.1
  ended (off.0, len.0) len.1

-- a new length: `/a 7`
abbrev pub resize_of : Rest → Result Command ℕ
resize_of rest = do
  what ← path_and_number rest
  Ok (command.Resize what.0 what.1)

-- a list, and how many names are left out: `/a 7`
abbrev pub list_of : Rest → Result Command ℕ
list_of rest = do
  what ← path_and_number rest
  Ok (command.List what.0 what.1)

-- a write by a path: `/a 7 0a0b`
abbrev pub write_of : Rest → Result Command ℕ
write_of rest = do
  path ← first_as path_of rest
  what ← place_and_bytes path.1
  Ok (command.Write path.0 what.0 what.1)

-- a read by a path: `/a 7 2`
abbrev pub read_of : Rest → Result Command ℕ
read_of rest = do
  path ← first_as path_of rest
  what ← place_and_count path.1
  Ok (command.Read path.0 what.0 what.1)

-- a write by a handle: `3 7 0a0b`
abbrev pub handle_write_of : Rest → Result Command ℕ
handle_write_of rest = do
  handle ← first_as (number_within 255) rest
  what ← place_and_bytes handle.1
  Ok (command.HWrite handle.0 what.0 what.1)

-- a read by a handle: `3 7 2`
abbrev pub handle_read_of : Rest → Result Command ℕ
handle_read_of rest = do
  handle ← first_as (number_within 255) rest
  what ← place_and_count handle.1
  Ok (command.HRead handle.0 what.0 what.1)

-- a rename: `/a /b`
abbrev pub rename_of : Rest → Result Command ℕ
rename_of rest = do
  path ← first_as path_of rest
  to ← first_as path_of path.1
  ended (command.Rename path.0 to.0) to.1

-- whether `ignore` follows, where another word may not
abbrev pub ignore_in : List Word → Result Bool ℕ
ignore_in [] = Ok false
ignore_in (w ∷ ws) = cond (bytes_eq w.bytes (codes "ignore")) (if_none true (next_place ws)) (Err w.place)

-- a stream, and `ignore` or nothing: `5`, `5 ignore`
abbrev pub set_stream_of : Rest → Result Command ℕ
set_stream_of rest = do
  stream ← first_as (number_within 63) rest
  ignore ← ignore_in stream.1.words
  Ok (command.SetStream stream.0 ignore)

-- what a name of a command and the words behind it ask for
abbrev pub by_verb : Verb → Rest → Result Command ℕ
by_verb verb.Mkdir rest = path_alone rest >>= (λ path. Ok (command.Mkdir path))
by_verb verb.Create rest = path_alone rest >>= (λ path. Ok (command.Create path))
by_verb verb.Unlink rest = path_alone rest >>= (λ path. Ok (command.Unlink path))
by_verb verb.Rmdir rest = path_alone rest >>= (λ path. Ok (command.Rmdir path))
by_verb verb.OpenFile rest = path_alone rest >>= (λ path. Ok (command.OpenFile path))
by_verb verb.Stat rest = path_alone rest >>= (λ path. Ok (command.Stat path))
by_verb verb.Write rest = write_of rest
by_verb verb.Resize rest = resize_of rest
by_verb verb.Read rest = read_of rest
by_verb verb.Rename rest = rename_of rest
by_verb verb.HWrite rest = handle_write_of rest
by_verb verb.HRead rest = handle_read_of rest
by_verb verb.Close rest = handle_alone rest >>= (λ handle. Ok (command.Close handle))
by_verb verb.Fsync rest = handle_alone rest >>= (λ handle. Ok (command.Fsync handle))
by_verb verb.List rest = list_of rest
by_verb verb.SetStream rest = set_stream_of rest
by_verb verb.Space rest = ended command.Space rest
by_verb verb.StreamSync rest = ended command.StreamSync rest
by_verb verb.Sync rest = ended command.Sync rest
by_verb verb.Flush rest = ended command.Flush rest

-- the names of the commands
abbrev pub verbs : List (List ℕ × Verb)
verbs =
    (codes "mkdir", verb.Mkdir) ∷ (codes "create", verb.Create) ∷ (codes "unlink", verb.Unlink) ∷ (codes "rmdir", verb.Rmdir)
    ∷ (codes "open", verb.OpenFile) ∷ (codes "stat", verb.Stat) ∷ (codes "write", verb.Write) ∷ (codes "resize", verb.Resize)
    ∷ (codes "read", verb.Read) ∷ (codes "rename", verb.Rename) ∷ (codes "hwrite", verb.HWrite) ∷ (codes "hread", verb.HRead)
    ∷ (codes "close", verb.Close) ∷ (codes "fsync", verb.Fsync) ∷ (codes "list", verb.List) ∷ (codes "setstream", verb.SetStream)
    ∷ (codes "space", verb.Space) ∷ (codes "streamsync", verb.StreamSync) ∷ (codes "sync", verb.Sync) ∷ (codes "flush", verb.Flush) ∷ []

-- what a list of names has for a word
abbrev pub verb_in : List (List ℕ × Verb) → List ℕ → Option Verb
verb_in [] word = None
verb_in (v ∷ vs) word = cond (bytes_eq word v.0) (Some v.1) (verb_in vs word)

-- the command that a word names
abbrev pub verb_of : List ℕ → Option Verb
verb_of word = verb_in verbs word

-- the command that words ask for: `mkdir /a`, `streamsync`
abbrev pub command_of : Rest → Result Command ℕ
command_of rest = do
  name ← first_as verb_of rest
  by_verb name.0 name.1

-- ---- lines

-- the call of a command by an actor, a number from 0 to 63
abbrev pub call_of : Rest → Result Line ℕ
call_of rest = do
  actor ← first_as (number_within 63) rest
  asked ← command_of actor.1
  Ok (Call actor.0 asked)

-- a line whose actor is from 0 to 63 and whose command keeps within the bounds of commands
abbrev pub IsLineWithin : Line → Type 0
IsLineWithin Skip = Unit {0}
IsLineWithin (Call actor asked) = (actor < 64) × (fits_command asked ≡ true)

-- a word that begins with `#` (35), which makes its line a comment
abbrev pub is_comment : List ℕ → Bool
is_comment [] = false
is_comment (b ∷ bs) = b == 35

-- whether a line is passed over: it has no words, or the first begins with `#`
abbrev pub is_skipped : List Word → Bool
is_skipped [] = true
is_skipped (w ∷ ws) = is_comment w.bytes

-- what a line asks for: nothing where it is passed over, else a call
abbrev pub meaning_of : List ℕ → Result Line ℕ
meaning_of line = cond (is_skipped (rest_of line).words) (Ok Skip) (call_of (rest_of line))
