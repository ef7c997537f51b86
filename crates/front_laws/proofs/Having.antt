-- The inodes of rows, and their names and bodies, once an update is made.
use Rattle.std.proofs.Common.{◌≡◌, ◌≢◌, inl, inr, ℕ, ◌-◌, ◌<◌, ◌≤◌, List, length, refl, sym, subst, ◌∙◌}
use Rattle.std.specs.Prelude.{Bool, true, false, cond, ◌==◌, Option, None, Some}
use Rattle.std.specs.FinMap.{get, len}
use Rattle.ccfs_base.specs.Names.{is_name}
use Rattle.tree_model.specs.declared.rows.Body.{Body}
use Rattle.tree_model.specs.declared.rows.Body.TheVariants.{Dir, File}
use Rattle.tree_model.specs.declared.rows.Row.{Row}
use Rattle.tree_model.specs.declared.rows.Update.{Update}
use Rattle.tree_model.specs.declared.rows.Update.TheVariants.{Make, Write, Resize, Remove, Move, Release}
use Rattle.tree_model.specs.Rows.{Rows}
use Rattle.tree_model.specs.Updates.{Edit, Rework, Place, Count, change, counted, new_body, left_of, edits, Fits, apply}
use Rattle.tree_model.proofs.Edited.{act, row_after, get_edited}
use Rattle.tree_model.proofs.TreeKept.{tree_kept}
use Rattle.history_laws.proofs.Turns.{Born}
use Rattle.image_model.specs.Carrying.{inode_in}
use Rattle.carried_volumes.specs.Plain.{IsBareBody, IsPlain}
use Rattle.carried_volumes.specs.Carried.{HaveInodes}
use Rattle.update_records.specs.Built.{is_built}
use Rattle.update_records.specs.Batches.{IsNoRows, HasItsInode, IsNamed}
use Rattle.front_laws.proofs.Turning.{IsMade, row_came}

-- ---- inodes

abbrev HasInode : ℕ → List ℕ → Rows → ℕ → Type 0
HasInode count inodes t x = (x < length inodes) × (2 ≤ inode_in inodes x) × (inode_in inodes x < count) × IsNoRows inodes t (inode_in inodes x)

made_inode : (count : ℕ) (inodes : List ℕ) (t : Rows) (u : Update) → HasItsInode count inodes t u → (x : ℕ) → IsMade u x → HasInode count inodes t x
made_inode count inodes t (Make dir name id d) h x m = subst (HasInode count inodes t) (let e = m.1 in let same : id ≡ x = cc in same) h
made_inode count inodes t (Write id off bytes) h x m = absurd (let e = m.1 in cc)
made_inode count inodes t (Resize id len) h x m = absurd (let e = m.1 in cc)
made_inode count inodes t (Remove dir name id true) h x m = absurd (let e = m.1 in cc)
made_inode count inodes t (Remove dir name id false) h x m = absurd (let e = m.1 in cc)
made_inode count inodes t (Move dir name to_dir to_name id d None stays) h x m = absurd (let e = m.1 in cc)
made_inode count inodes t (Move dir name to_dir to_name id d (Some y) true) h x m = absurd (let e = m.1 in cc)
made_inode count inodes t (Move dir name to_dir to_name id d (Some y) false) h x m = absurd (let e = m.1 in cc)
made_inode count inodes t (Release id) h x m = absurd (let e = m.1 in cc)

-- rows have inodes of their own behind an update whose new row has one
pub have_entered : (count : ℕ) (inodes : List ℕ) (t : Rows) (u : Update) → HaveInodes count inodes t → HasItsInode count inodes t u
    → len (apply t u) ≤ count - 1 → HaveInodes count inodes (apply t u)
have_entered count inodes t u have its few =
    let made : (x : ℕ) → IsMade u x → HasInode count inodes t x = made_inode count inodes t u its in
    record {
      listed = λ s r e. elim (row_came t u s (r, e)) [ inl b ↦ have.listed s b.0 b.1 | inr m ↦ (made s m).0 ];
      there = λ s r e. elim (row_came t u s (r, e)) [ inl b ↦ have.there s b.0 b.1 | inr m ↦ (made s m).2 ];
      root = have.root;
      high = λ s r ne e. elim (row_came t u s (r, e)) [ inl b ↦ have.high s b.0 ne b.1 | inr m ↦ (made s m).1 ];
      apart = λ s v r q e g same. elim (row_came t u s (r, e)) [
        | inl b ↦ elim (row_came t u v (q, g)) [
          | inl c ↦ have.apart s v b.0 c.0 b.1 c.1 same
          | inr m ↦ absurd ((made v m).3 s b.0 b.1 same)
        ]
        | inr m ↦ elim (row_came t u v (q, g)) [
          | inl c ↦ absurd ((made s m).3 v c.0 c.1 (sym same))
          | inr k ↦ (let p : Born s m.0 ≡ Born v k.0 = sym m.1 ∙ k.1 in cc)
        ]
      ];
      few = few;
    }

-- ---- names and bodies

-- a row that stands under a name, but for the root's, and has no bytes
abbrev IsPlainRow : ℕ → Row → Type 0
IsPlainRow s r = (s ≢ 0 → ((dir : ℕ) × (r.parent ≡ Some dir)) × (is_name r.name ≡ true)) × IsBareBody r.body

abbrev PlainAt : ℕ → Option Row → Type 0
PlainAt s None = Unit {0}
PlainAt s (Some r) = IsPlainRow s r

plain_act : (s x : ℕ) (e : Edit) (o : Option Row) → PlainAt s o → PlainAt s (change e o) → PlainAt s (act s (x, e) o)
plain_act s x e o p q = elim (s == x) as (λ b. PlainAt s (cond b (change e o) o)) [ true ↦ q | false ↦ p ]

bare_counted : (b : Body) → IsBareBody b → IsBareBody (counted b)
bare_counted (Dir n) p = tt
bare_counted (File bytes) p = p

plain_count : (s x : ℕ) (o : Option Row) → PlainAt s o → PlainAt s (act s (x, Count) o)
plain_count s x None p = plain_act s x Count None p tt
plain_count s x (Some r) p = plain_act s x Count (Some r) p (p.0, bare_counted r.body p.1)

plain_place : (s x d : ℕ) (n : List ℕ) (o : Option Row) → is_name n ≡ true → PlainAt s o → PlainAt s (act s (x, Place d n) o)
plain_place s x d n None name p = plain_act s x (Place d n) None p tt
plain_place s x d n (Some r) name p = plain_act s x (Place d n) (Some r) p ((λ ne. ((d, refl), name)), p.1)

plain_left : (s x : ℕ) (o : Option Row) → PlainAt s o → PlainAt s (act s (x, Rework (left_of false)) o)
plain_left s x o p = plain_act s x (Rework (left_of false)) o p tt

bare_new : (d : Bool) → IsBareBody (new_body d)
bare_new true = tt
bare_new false = refl

plain_rows : (u : Update) → is_built u ≡ true → IsNamed u → (s : ℕ) (o : Option Row) → PlainAt s o → PlainAt s (row_after (edits u) s o)
plain_rows (Make dir name id d) b n s o p = plain_count s dir _
    (plain_act s id (Rework (λ o. Some (record { parent = Some dir; name = name; body = new_body d }))) o p ((λ ne. ((dir, refl), n)), bare_new d))
plain_rows (Write id off bytes) b n s o p = absurd (cc)
plain_rows (Resize id len) b n s o p = absurd (cc)
plain_rows (Remove dir name id true) b n s o p = absurd (cc)
plain_rows (Remove dir name id false) b n s o p = plain_count s dir _ (plain_left s id o p)
plain_rows (Move dir name to_dir to_name id d r true) b n s o p = absurd (cc)
plain_rows (Move dir name to_dir to_name id d None false) b n s o p = plain_count s to_dir _ (plain_count s dir _ (plain_place s id to_dir to_name o n p))
plain_rows (Move dir name to_dir to_name id d (Some x) false) b n s o p =
    plain_count s to_dir _ (plain_count s dir _ (plain_place s id to_dir to_name _ n (plain_left s x o p)))
plain_rows (Release id) b n s o p = absurd (cc)

module _ (t : Rows) (u : Update) (plain : IsPlain t) (built : is_built u ≡ true) (named : IsNamed u) where
  plain_before : (s : ℕ) (o : Option Row) → get t s ≡ o → PlainAt s o
  plain_before s None e = tt
  plain_before s (Some r) e = ((λ ne. (plain.placed s r ne e, plain.named s r ne e)), plain.bare s r e)

  plain_row : (s : ℕ) (r : Row) → get (apply t u) s ≡ Some r → IsPlainRow s r
  plain_row s r e = subst (PlainAt s) (sym (get_edited (edits u) t s) ∙ e) (plain_rows u built named s (get t s) (plain_before s (get t s) refl))

-- a tree stays one of empty files with names
pub plain_entered : (t : Rows) (u : Update) → IsPlain t → is_built u ≡ true → Fits t u → IsNamed u → IsPlain (apply t u)
plain_entered t u plain built f named = record {
  tree = tree_kept t u plain.tree f;
  placed = λ s r ne e. ((plain_row t u plain built named s r e).0 ne).0;
  named = λ s r ne e. ((plain_row t u plain built named s r e).0 ne).1;
  bare = λ s r e. (plain_row t u plain built named s r e).1;
}
