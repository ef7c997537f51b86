-- A line of a script that is in the grammar asks for a call that may be made.
use Rattle.std.proofs.Common.{◌≡◌, ℕ, ◌<◌, ◌≤◌, List, [], ◌∷◌, length, refl, arith}
use Rattle.std.specs.Prelude.{Bool, true, false, cond, nat_le, codes, Option, Some, None, Result, Ok, Err}
use Rattle.std.specs.Str.{bytes_eq}
use Rattle.std.proofs.lemmas.Bool.{leb-true}
use Rattle.ccfs_base.specs.Fits.{fits_command}
use Rattle.ccfs_base.specs.Names.{path_of}
use Rattle.ccfs_base.specs.declared.commands.Command.{Command}
use Rattle.ccfs_base.specs.declared.commands.Command.TheVariants as command
use Rattle.script_text.specs.DataWords.{all_bytes, few_bytes, parts_of, data_of}
use Rattle.script_text.specs.Numbers.{number_of}
use Rattle.script_text.specs.Words.{Word, Rest, rest_of}
use Rattle.script_text.specs.Grammar.{◌>>=◌, read_at, first_of, first_as, next_place, if_none, ended, at_most, number_within, offset_of, path_alone, handle_alone, path_and_number, place_and_bytes, place_and_count, ignore_in, by_verb, verb_of, command_of, call_of, IsLineWithin, is_skipped, meaning_of}
use Rattle.script_text.specs.declared.verbs.Verb.{Verb}
use Rattle.script_text.specs.declared.verbs.Verb.TheVariants as verb
use Rattle.script_text.specs.declared.grammar.Line.{Line}
use Rattle.script_text.specs.declared.grammar.Line.TheVariants.{Skip}

-- ---- what is read, where it is read

-- P holds of what is there, where something is
abbrev pub IfRight : {A : Type 0} → (A → Type 0) → Result A ℕ → Type 0
IfRight P (Ok x) = P x
IfRight P (Err place) = Unit {0}

right_then : {A B : Type 0} (P : A → Type 0) (Q : B → Type 0) (r : Result A ℕ) (f : A → Result B ℕ) → IfRight P r → ((x : A) → P x → IfRight Q (f x)) → IfRight Q (r >>= f)
right_then P Q (Ok x) f p next = next x p
right_then P Q (Err place) f p next = tt

any_then : {A B : Type 0} (Q : B → Type 0) (r : Result A ℕ) (f : A → Result B ℕ) → ((x : A) → IfRight Q (f x)) → IfRight Q (r >>= f)
any_then Q (Ok x) f next = next x
any_then Q (Err place) f next = tt

-- P holds of what a word is read as
abbrev IfRead : {A : Type 0} → (A → Type 0) → Option A → Type 0
IfRead P None = Unit {0}
IfRead P (Some x) = P x

read_right : {A : Type 0} (P : A → Type 0) (place : ℕ) (o : Option A) (rest : Rest) → IfRead P o → IfRight (λ (x : A × Rest). P x.0) (read_at place o rest)
read_right P place None rest p = tt
read_right P place (Some x) rest p = p

first_right : {A : Type 0} (P : A → Type 0) (read : List ℕ → Option A) (end : ℕ) (ws : List Word) → ((word : List ℕ) → IfRead P (read word)) → IfRight (λ (x : A × Rest). P x.0) (first_of read end ws)
first_right P read end [] all = tt
first_right P read end (w ∷ ws) all = read_right P w.place (read w.bytes) (record { words = ws; end = end }) (all w.bytes)

none_right : {A : Type 0} (P : A → Type 0) (x : A) (o : Option ℕ) → P x → IfRight P (if_none x o)
none_right P x None p = p
none_right P x (Some place) p = tt

-- ---- words

kept_read : {A : Type 0} (P : A → Type 0) (b : Bool) (x : A) → (b ≡ true → P x) → IfRead P (cond b (Some x) None)
kept_read P true x p = p refl
kept_read P false x p = tt

most_read : (most : ℕ) (o : Option ℕ) → IfRead (λ n. nat_le n most ≡ true) (at_most most o)
most_read most None = tt
most_read most (Some n) = kept_read (λ (z : ℕ). nat_le z most ≡ true) (nat_le n most) n (λ e. e)

abbrev IsShort : List ℕ → Type 0
IsShort bytes = nat_le (length bytes) 65536 ≡ true

few_read : (o : Option (List ℕ)) → IfRead IsShort (few_bytes 65536 o)
few_read None = tt
few_read (Some bytes) = kept_read IsShort (nat_le (length bytes) 65536) bytes (λ e. e)

none_or_read : (b : Bool) (o : Option (List ℕ)) → IfRead IsShort o → IfRead IsShort (cond b (Some []) o)
none_or_read true o p = refl
none_or_read false o p = p

data_read : (word : List ℕ) → IfRead IsShort (data_of word)
data_read word = none_or_read (bytes_eq word (codes "-")) (few_bytes 65536 (all_bytes (parts_of word))) (few_read (all_bytes (parts_of word)))

abbrev IsWithin : ℕ → ℕ → Type 0
IsWithin most n = nat_le n most ≡ true

number_right : (most : ℕ) (rest : Rest) → IfRight (λ (x : ℕ × Rest). IsWithin most x.0) (first_as (number_within most) rest)
number_right most rest = first_right (IsWithin most) (number_within most) rest.end rest.words (λ word. most_read most (number_of word))

-- ---- commands

abbrev Fits : Command → Type 0
Fits c = fits_command c ≡ true

bytes_right : (rest : Rest) → IfRight (λ (x : ℕ × List ℕ). IsShort x.1) (place_and_bytes rest)
bytes_right rest =
    any_then (λ (x : ℕ × List ℕ). IsShort x.1) (first_as offset_of rest) _ (λ off.
    right_then (λ (x : List ℕ × Rest). IsShort x.0) (λ (x : ℕ × List ℕ). IsShort x.1) (first_as data_of off.1) _
    (first_right IsShort data_of off.1.end off.1.words data_read)
    (λ bytes short. none_right (λ (x : ℕ × List ℕ). IsShort x.1) (off.0, bytes.0) (next_place bytes.1.words) short))

count_right : (rest : Rest) → IfRight (λ (x : ℕ × ℕ). IsWithin 4096 x.1) (place_and_count rest)
count_right rest =
    any_then (λ (x : ℕ × ℕ). IsWithin 4096 x.1) (first_as offset_of rest) _ (λ off.
    right_then (λ (x : ℕ × Rest). IsWithin 4096 x.0) (λ (x : ℕ × ℕ). IsWithin 4096 x.1) (first_as (number_within 4096) off.1) _
    (number_right 4096 off.1)
    (λ len few. none_right (λ (x : ℕ × ℕ). IsWithin 4096 x.1) (off.0, len.0) (next_place len.1.words) few))

path_fits : (make : List (List ℕ) → Command) → ((path : List (List ℕ)) → Fits (make path)) → (rest : Rest) → IfRight Fits (path_alone rest >>= (λ path. Ok (make path)))
path_fits make fits rest = any_then Fits (path_alone rest) (λ path. Ok (make path)) fits

handle_fits : (make : ℕ → Command) → ((handle : ℕ) → Fits (make handle)) → (rest : Rest) → IfRight Fits (handle_alone rest >>= (λ handle. Ok (make handle)))
handle_fits make fits rest = any_then Fits (handle_alone rest) (λ handle. Ok (make handle)) fits

alone_fits : (c : Command) → Fits c → (rest : Rest) → IfRight Fits (ended c rest)
alone_fits c fits rest = none_right Fits c (next_place rest.words) fits

command_fits : (v : Verb) (rest : Rest) → IfRight Fits (by_verb v rest)
command_fits verb.Mkdir rest = path_fits command.Mkdir (λ path. refl) rest
command_fits verb.Create rest = path_fits command.Create (λ path. refl) rest
command_fits verb.Unlink rest = path_fits command.Unlink (λ path. refl) rest
command_fits verb.Rmdir rest = path_fits command.Rmdir (λ path. refl) rest
command_fits verb.OpenFile rest = path_fits command.OpenFile (λ path. refl) rest
command_fits verb.Stat rest = path_fits command.Stat (λ path. refl) rest
command_fits verb.Write rest = any_then Fits (first_as path_of rest) _ (λ path.
    right_then (λ (x : ℕ × List ℕ). IsShort x.1) Fits (place_and_bytes path.1) _ (bytes_right path.1) (λ what short. short))
command_fits verb.Resize rest = any_then Fits (path_and_number rest) _ (λ what. refl)
command_fits verb.Read rest = any_then Fits (first_as path_of rest) _ (λ path.
    right_then (λ (x : ℕ × ℕ). IsWithin 4096 x.1) Fits (place_and_count path.1) _ (count_right path.1) (λ what few. few))
command_fits verb.Rename rest = any_then Fits (first_as path_of rest) _ (λ path.
    any_then Fits (first_as path_of path.1) _ (λ to. alone_fits (command.Rename path.0 to.0) refl to.1))
command_fits verb.HWrite rest = any_then Fits (first_as (number_within 255) rest) _ (λ handle.
    right_then (λ (x : ℕ × List ℕ). IsShort x.1) Fits (place_and_bytes handle.1) _ (bytes_right handle.1) (λ what short. short))
command_fits verb.HRead rest = any_then Fits (first_as (number_within 255) rest) _ (λ handle.
    right_then (λ (x : ℕ × ℕ). IsWithin 4096 x.1) Fits (place_and_count handle.1) _ (count_right handle.1) (λ what few. few))
command_fits verb.Close rest = handle_fits command.Close (λ handle. refl) rest
command_fits verb.Fsync rest = handle_fits command.Fsync (λ handle. refl) rest
command_fits verb.List rest = any_then Fits (path_and_number rest) _ (λ what. refl)
command_fits verb.SetStream rest = right_then (λ (x : ℕ × Rest). IsWithin 63 x.0) Fits (first_as (number_within 63) rest) _ (number_right 63 rest)
    (λ stream low. any_then Fits (ignore_in stream.1.words) _ (λ ignore. low))
command_fits verb.Space rest = alone_fits command.Space refl rest
command_fits verb.StreamSync rest = alone_fits command.StreamSync refl rest
command_fits verb.Sync rest = alone_fits command.Sync refl rest
command_fits verb.Flush rest = alone_fits command.Flush refl rest

-- ---- lines

actor_low : (n : ℕ) → nat_le n 63 ≡ true → n < 64
actor_low n e = let z : n ≤ 63 = leb-true n 63 e in omega (arith, z)

call_right : (rest : Rest) → IfRight IsLineWithin (call_of rest)
call_right rest =
    right_then (λ (x : ℕ × Rest). IsWithin 63 x.0) IsLineWithin (first_as (number_within 63) rest) _ (number_right 63 rest) (λ actor low.
    right_then Fits IsLineWithin (command_of actor.1) _
    (any_then Fits (first_as verb_of actor.1) _ (λ name. command_fits name.0 name.1))
    (λ asked fits. (actor_low actor.0 low, fits)))

skipped_or : (b : Bool) (r : Result Line ℕ) → IfRight IsLineWithin r → IfRight IsLineWithin (cond b (Ok Skip) r)
skipped_or true r p = tt
skipped_or false r p = p

pub line_right : (line : List ℕ) → IfRight IsLineWithin (meaning_of line)
line_right line = skipped_or (is_skipped (rest_of line).words) (call_of (rest_of line)) (call_right (rest_of line))
