-- Updates that meet neither by their keys nor by the inodes of rows may change places, also where each new row is to have its inode.
use Rattle.std.proofs.Common.{◌≡◌, ◌⊎◌, inl, inr, ℕ, List, refl, sym}
use Rattle.std.specs.Prelude.{true}
use Rattle.stream_cuts.specs.States.{Swaps}
use Rattle.tree_model.specs.declared.rows.Update.{Update}
use Rattle.tree_model.specs.declared.rows.Update.TheVariants.{Make, Write, Resize, Remove, Move, Release}
use Rattle.tree_model.specs.Rows.{Rows}
use Rattle.tree_model.specs.Updates.{apply}
use Rattle.tree_model.specs.Laws.{Applies, Meet}
use Rattle.tree_model.proofs.Swapping.{swaps}
use Rattle.tree_cuts.specs.Calls.{Charged}
use Rattle.image_model.specs.Carrying.{inode_in}
use Rattle.update_records.specs.Built.{is_built}
use Rattle.update_records.specs.Batches.{IsNoRows, HasItsInode, IsNamed}
use Rattle.front_laws.proofs.Rows.{Makes, Changes, row_of, there_of, forth, back, drops_changes, makes_changes}

-- both change a row, and these have one inode: removing `/a` with the inode 5 and making `/b` with it meet so
abbrev pub ShareInode : List ℕ → Update → Update → Type 0
ShareInode inodes u v = (x : ℕ) × (y : ℕ) × Changes u x × Changes v y × (inode_in inodes x ≡ inode_in inodes y)

-- two updates with their charges meet by their keys or by an inode
abbrev pub MeetIn : List ℕ → Charged → Charged → Type 0
MeetIn inodes a b = Meet a.0 b.0 ⊎ ShareInode inodes a.0 b.0

-- an update applies to a tree, is built and names what is a name, and a new row has its inode
abbrev pub AppliesIn : ℕ → List ℕ → Rows → Charged → Type 0
AppliesIn count inodes t a = Applies t a.0 × HasItsInode count inodes t a.0 × (is_built a.0 ≡ true) × IsNamed a.0

abbrev pub apply_in : Rows → Charged → Rows
apply_in t a = apply t a.0

-- what holds of the inode of a new row holds on any tree on which no row has it
has_there : (count : ℕ) (inodes : List ℕ) (t s : Rows) (u : Update) → HasItsInode count inodes t u
    → ((id : ℕ) → Makes u id → IsNoRows inodes t (inode_in inodes id) → IsNoRows inodes s (inode_in inodes id)) → HasItsInode count inodes s u
has_there count inodes t s (Make dir name id d) h f = (h.0, h.1, h.2, f id (d, refl) h.3)
has_there count inodes t s (Write id off bytes) h f = tt
has_there count inodes t s (Resize id len) h f = tt
has_there count inodes t s (Remove dir name id stays) h f = tt
has_there count inodes t s (Move dir name to_dir to_name id d r stays) h f = tt
has_there count inodes t s (Release id) h f = tt

before : (inodes : List ℕ) (t : Rows) (u v : Update) → (ShareInode inodes u v → ⊥) → (id : ℕ) → Makes v id
    → IsNoRows inodes (apply t u) (inode_in inodes id) → IsNoRows inodes t (inode_in inodes id)
before inodes t u v apart id made none s r here same = elim (forth t u s (there_of t s r here)) [
  | inl there ↦ let w = row_of (apply t u) s there in none s w.0 w.1 same
  | inr dropped ↦ apart (s, id, drops_changes u s dropped, makes_changes v id made, same)
]

behind : (inodes : List ℕ) (t : Rows) (u v : Update) → (ShareInode inodes u v → ⊥) → (id : ℕ) → Makes u id
    → IsNoRows inodes t (inode_in inodes id) → IsNoRows inodes (apply t v) (inode_in inodes id)
behind inodes t u v apart id made none s r here same = elim (back t v s (there_of (apply t v) s r here)) [
  | inl was ↦ let w = row_of t s was.0 in none s w.0 w.1 same
  | inr new ↦ apart (id, s, makes_changes u id made, makes_changes v s new, sym same)
]

pub swaps_in : (count : ℕ) (inodes : List ℕ) → Swaps (AppliesIn count inodes) apply_in (MeetIn inodes)
swaps_in count inodes t u v apart a b =
    let w = swaps t u.0 v.0 (λ m. apart (inl m)) a.0 b.0 in
    let no : ShareInode inodes u.0 v.0 → ⊥ = λ s. apart (inr s) in (
      (w.0, has_there count inodes (apply t u.0) t v.0 b.1 (λ id made. before inodes t u.0 v.0 no id made), b.2, b.3),
      (w.1, has_there count inodes t (apply t v.0) u.0 a.1 (λ id made. behind inodes t u.0 v.0 no id made), a.2, a.3),
      w.2,
    )
