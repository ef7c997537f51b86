-- What a whole script asks for.
use Rattle.std.specs.Prelude.{◌≡◌, ℕ, ◌+◌, Bool, true, false, not, ◌||◌, cond, nat_lt, List, [], ◌∷◌, ◌++◌, length, Option, Some, None, Result, Ok, Err}
use Rattle.ccfs_base.specs.declared.commands.Command.{Command}
use Rattle.ccfs_base.specs.declared.commands.Command.TheVariants.{Mkdir, Create, Unlink, Rmdir, Rename, Stat, List as Listing, SetStream, StreamSync, Sync, Flush, Write, HWrite}
use Rattle.script_text.specs.Lines.{lines_of}
use Rattle.script_text.specs.Grammar.{meaning_of}
use Rattle.script_text.specs.declared.grammar.Line.{Line}
use Rattle.script_text.specs.declared.grammar.Line.TheVariants.{Skip, Call as Asks}
use Rattle.script_text.specs.declared.scripts.Call.{Call}
use Rattle.script_text.specs.declared.scripts.ScriptFault.{ScriptFault}
use Rattle.script_text.specs.declared.scripts.ScriptFault.TheVariants.{Long, BadLine, NotBuilt, NoMemory}

-- ---- how long a script is

-- how many bytes a command writes: 2 for `write /a 0 0a0b`, and none for `mkdir /a`
abbrev pub bytes_in_command : Command → ℕ
bytes_in_command (Write path off bytes) = length bytes
bytes_in_command (HWrite handle off bytes) = length bytes
bytes_in_command _ = 0

-- how many bytes the data words of a line stand for, where the line is in the grammar
abbrev pub bytes_in_line : Result Line ℕ → ℕ
bytes_in_line (Ok Skip) = 0
bytes_in_line (Ok (Asks actor command)) = bytes_in_command command
bytes_in_line (Err place) = 0

-- how many bytes the data words of lines stand for in all
abbrev pub bytes_in : List (List ℕ) → ℕ
bytes_in [] = 0
bytes_in (line ∷ lines) = bytes_in_line (meaning_of line) + bytes_in lines

-- a script is too long by its text: it has more than 16,777,216 bytes or 65,536 lines
abbrev pub is_text_long : List ℕ → Bool
is_text_long text = nat_lt 16777216 (length text) || nat_lt 65536 (length (lines_of text))

-- a script is too long: by its text, or by its data words, which stand for more than 67,108,864 bytes in all
abbrev pub is_long : List ℕ → Bool
is_long text = is_text_long text || nat_lt 67108864 (bytes_in (lines_of text))

-- ---- its calls

-- a call in front of those that follow, unless one of the lines that follow is outside the grammar
abbrev pub before_calls : Call → Result (List Call) ℕ → Result (List Call) ℕ
before_calls call (Ok calls) = Ok (call ∷ calls)
before_calls call (Err number) = Err number

-- what the line with that number asks for, and then the lines that follow
abbrev pub after_line : ℕ → Result Line ℕ → Result (List Call) ℕ → Result (List Call) ℕ
after_line number (Ok Skip) more = more
after_line number (Ok (Asks actor command)) more = before_calls (record { line = number; actor = actor; command = command }) more
after_line number (Err place) more = Err number

-- the calls of these lines, which are counted from that number on; or the number of the first that is outside the grammar
abbrev pub calls_from : ℕ → List (List ℕ) → Result (List Call) ℕ
calls_from number [] = Ok []
calls_from number (line ∷ lines) = after_line number (meaning_of line) (calls_from (number + 1) lines)

-- the calls of a script, whose lines are counted from 1: `# a\n0 create /a` has one call, of actor 0 in line 2
abbrev pub calls_of : List ℕ → Result (List Call) ℕ
calls_of text = calls_from 1 (lines_of text)

-- calls that were read in front of those that follow; or the number of the first line outside the grammar, where one was read
abbrev pub behind : Option ℕ → List Call → Result (List Call) ℕ → Result (List Call) ℕ
behind (Some number) calls more = Err number
behind None calls (Ok more) = Ok (calls ++ more)
behind None calls (Err number) = Err number

-- whether a command is built: those on names and the sync forms but that of a handle are, so far, and `setstream` without `ignore`
abbrev pub is_built : Command → Bool
is_built (Mkdir path) = true
is_built (Create path) = true
is_built (Unlink path) = true
is_built (Rmdir path) = true
is_built (Rename path to) = true
is_built (Stat path) = true
is_built (Listing path skip) = true
is_built (SetStream stream ignore) = not ignore
is_built StreamSync = true
is_built Sync = true
is_built Flush = true
is_built _ = false

-- the line of the first call whose command isn't built, if one isn't
abbrev pub first_unbuilt : List Call → Option ℕ
first_unbuilt [] = None
first_unbuilt (call ∷ calls) = cond (is_built call.command) (first_unbuilt calls) (Some call.line)

-- all lines are in the grammar, and that line is the first whose command isn't built
pub record IsFirstUnbuilt (text : List ℕ) (number : ℕ) : Type 0 where
  pub calls : List Call
  pub in_grammar : calls_of text ≡ Ok calls
  pub first : first_unbuilt calls ≡ Some number

-- ---- why it has none

-- why a script that isn't too long by its text has no calls that are built: its data words stand for too many bytes; or they don't,
-- and that line is the first outside the grammar, or none is outside it and that line is the first that isn't built; or memory was wanted
abbrev pub StopsAt : ℕ → List ℕ → ScriptFault → Type 0
StopsAt most text Long = nat_lt most (bytes_in (lines_of text)) ≡ true
StopsAt most text (BadLine number) = (nat_lt most (bytes_in (lines_of text)) ≡ false) × (calls_of text ≡ Err number)
StopsAt most text (NotBuilt number) = (nat_lt most (bytes_in (lines_of text)) ≡ false) × IsFirstUnbuilt text number
StopsAt most text NoMemory = Unit {0}

-- the same of any script: it is too long; or it isn't, and that line is the first outside the grammar, or none is outside it and that
-- line is the first that isn't built; or its text isn't too long, and memory was wanted
abbrev pub HasFault : List ℕ → ScriptFault → Type 0
HasFault text Long = is_long text ≡ true
HasFault text (BadLine number) = (is_long text ≡ false) × (calls_of text ≡ Err number)
HasFault text (NotBuilt number) = (is_long text ≡ false) × IsFirstUnbuilt text number
HasFault text NoMemory = is_text_long text ≡ false
