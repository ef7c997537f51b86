-- The lines that are printed. Each ends with the byte 10 (a line feed), and numbers are decimal without leading zeros.
use Rattle.std.specs.Prelude.{ℕ, Bool, cond, List, [], ◌∷◌, ◌++◌, codes, decimal, flat_map}
use Rattle.script_text.specs.Data.{data_text}
use Rattle.ccfs_base.specs.declared.replies.Refusal.{Refusal}
use Rattle.ccfs_base.specs.declared.replies.Refusal.TheVariants.{NoEntry, NotDir, IsDir, Exists, NotEmpty, Root, Loop, FileBig, NoSpace, NoInode, BadHandle, HandlesFull}
use Rattle.ccfs_base.specs.declared.replies.Reply.{Reply}
use Rattle.ccfs_base.specs.declared.replies.Reply.TheVariants.{Done, Got, Handle, StatDir, StatFile, Listed, Space, Synced, Refused}

-- a text as a line: `ok` and a line feed
abbrev pub line : List ℕ → List ℕ
line text = text ++ 10 ∷ []

-- what the program says where its words are no command
abbrev pub usage_line : List ℕ
usage_line = line (codes "usage: ccfs mkfs IMAGE BLOCKS INODES | run IMAGE SCRIPT | race IMAGE SCRIPT | tree IMAGE | check IMAGE | demo IMAGE START COUNT | crash BLOCKS SCRIPT CALL PICK")

-- the script has too many bytes or lines
abbrev pub too_long_line : List ℕ
too_long_line = line (codes "script too long")

-- the script could not be read to its end
abbrev pub script_fault_line : List ℕ
script_fault_line = line (codes "fault: script")

-- a call of the disk failed
abbrev pub disk_fault_line : List ℕ
disk_fault_line = line (codes "fault: disk")

-- there was not enough memory
abbrev pub memory_fault_line : List ℕ
memory_fault_line = line (codes "fault: memory")

-- a line of the script, counted from 1, asks for what isn't built: `line 2 not built`
abbrev pub not_built_line : ℕ → List ℕ
not_built_line number = line (codes "line " ++ decimal number ++ codes " not built")

-- a line of the script, counted from 1, is outside the grammar: `script line 2 is not a command`
abbrev pub bad_line_line : ℕ → List ℕ
bad_line_line number = line (codes "script line " ++ decimal number ++ codes " is not a command")

-- the image stands for no tree: the kind of what is wrong as it is spelled, and the block where; of `Size` and 0 comes
-- `bad image Size block 0`
abbrev pub bad_image_line : List ℕ → ℕ → List ℕ
bad_image_line kind block = line (codes "bad image " ++ kind ++ codes " block " ++ decimal block)

-- an image was made: of 512, 32 and 246 comes `made 512 blocks 32 inodes 246 data blocks`
abbrev pub made_line : ℕ → ℕ → ℕ → List ℕ
made_line blocks inodes data_blocks =
    line (codes "made " ++ decimal blocks ++ codes " blocks " ++ decimal inodes ++ codes " inodes " ++ decimal data_blocks ++ codes " data blocks")

-- a number behind a label: of ` changes ` and 2 comes ` changes 2`
abbrev pub labeled : List ℕ → ℕ → List ℕ
labeled label number = label ++ decimal number

-- why a command was refused: `NoEntry`, `NoSpace need 3 free 2`
abbrev pub refusal_text : Refusal → List ℕ
refusal_text NoEntry = codes "NoEntry"
refusal_text NotDir = codes "NotDir"
refusal_text IsDir = codes "IsDir"
refusal_text Exists = codes "Exists"
refusal_text NotEmpty = codes "NotEmpty"
refusal_text Root = codes "Root"
refusal_text Loop = codes "Loop"
refusal_text FileBig = codes "FileBig"
refusal_text (NoSpace need free) = labeled (codes "NoSpace need ") need ++ labeled (codes " free ") free
refusal_text NoInode = codes "NoInode"
refusal_text BadHandle = codes "BadHandle"
refusal_text HandlesFull = codes "HandlesFull"

-- names, each behind a blank and with a slash behind a directory's: ` a/ f`
abbrev pub names_text : List (List ℕ × Bool) → List ℕ
names_text names = flat_map (λ n. 32 ∷ n.0 ++ cond n.1 (47 ∷ []) []) names

-- what a command was answered: `ok`, `ok 3`, `refused Exists`
abbrev pub answer_text : Reply → List ℕ
answer_text Done = codes "ok"
answer_text (Got bytes) = codes "ok " ++ data_text bytes
answer_text (Handle number) = labeled (codes "ok ") number
answer_text (StatDir entries changes) = labeled (codes "ok dir entries ") entries ++ labeled (codes " changes ") changes
answer_text (StatFile length blocks) = labeled (codes "ok file length ") length ++ labeled (codes " blocks ") blocks
answer_text (Listed total names) = labeled (codes "ok ") total ++ names_text names
answer_text (Space blocks inodes) = labeled (codes "ok free blocks ") blocks ++ labeled (codes " inodes ") inodes
answer_text (Synced seals) = labeled (codes "ok ") seals
answer_text (Refused refusal) = codes "refused " ++ refusal_text refusal

-- the line of a reply to an actor: `0 ok`
abbrev pub reply_line : ℕ → Reply → List ℕ
reply_line actor reply = line (decimal actor ++ codes " " ++ answer_text reply)
