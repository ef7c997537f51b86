-- What holds of a disk by its operations: the laws of the trait, and what they stand on.
use Rattle.std.specs.Prelude.{◌≡◌, ℕ, ◌+◌, ◌-◌, ◌≤◌, Bool, IsTrue, ◌&&◌, nat_le, List, [], ◌∷◌, ◌++◌, length, take, drop, replicate, refl}
use Rattle.std.proofs.Common.{inl, inr, ◌∙◌, arith, length-append, length-drop}
use Rattle.std.proofs.lemmas.List.{take_at, drop_at, length-take-le, length-replicate, length-take, take-take, take-append-le}
use Rattle.std.proofs.lemmas.Bool.Decides.{nat_tests}
use Rattle.disk_model.specs.Bytes.{patched, resized, Torn, Resized}
use Rattle.disk_model.specs.History.{contents, all_inside, Images, LeftSince}
use Rattle.disk_model.specs.declared.operation.Operation.{Operation}
use Rattle.disk_model.specs.declared.operation.Operation.TheVariants.{Write, Resize, Sync}

pub length-patched : (old : List ℕ) (offset : ℕ) (bytes : List ℕ) → offset + length bytes ≤ length old → length (patched old offset bytes) ≡ length old
length-patched old offset bytes inside = omega (arith, length-append (take offset old ++ bytes) (drop (offset + length bytes) old), length-append (take offset old) bytes, length-drop (offset + length bytes) old, length-take-le offset old (omega arith))

-- a whole write is one of the torn ones
pub Torn-patched : (old : List ℕ) (offset : ℕ) (bytes : List ℕ) → offset + length bytes ≤ length old → Torn offset (length bytes) old (patched old offset bytes)
Torn-patched old offset bytes inside =
    let front : length (take offset old) ≡ offset = length-take-le offset old (omega arith) in
    record {
      before = take-append-le offset (take offset old ++ bytes) (drop (offset + length bytes) old) (omega (arith, length-append (take offset old) bytes, front)) ∙ take_at (take offset old) bytes offset front;
      after = drop_at (take offset old ++ bytes) (drop (offset + length bytes) old) (offset + length bytes) (omega (arith, length-append (take offset old) bytes, front));
      same_length = length-patched old offset bytes inside;
    }

pub Torn-same : (offset size : ℕ) (c : List ℕ) → Torn offset size c c
Torn-same offset size c = record { before = refl; after = refl; same_length = refl }

pub Resized-same : (size : ℕ) (c : List ℕ) → Resized size c c
Resized-same size c = record { either = inl refl; front = λ k le le'. refl }

pub length-resized : (old : List ℕ) (size : ℕ) → length (resized old size) ≡ size
length-resized old size = omega (arith, length-append (take size old) (replicate (size - length old) 0), length-take size old, length-replicate {A = ℕ} (size - length old) 0)

pub Resized-resized : (old : List ℕ) (size : ℕ) → Resized size old (resized old size)
Resized-resized old size = record {
  either = inr (length-resized old size);
  front = λ k le le'. take-append-le k (take size old) (replicate (size - length old) 0) (omega (arith, length-take size old)) ∙ take-take k size old le';
}

pub inside_now : (n m : ℕ) (rest : Bool) → IsTrue (nat_le n m && rest) → (n ≤ m) × IsTrue rest
inside_now n m rest both = (grind (arith, nat_tests), grind (arith, nat_tests))

-- the contents are an image
pub Images-contents : (start : List ℕ) (past : List Operation) → IsTrue (all_inside start past) → Images start past (contents start past)
Images-contents start [] inside = refl
Images-contents start (Write offset bytes ∷ past) inside =
    let both = inside_now _ _ _ inside in
    (contents start past, Images-contents start past both.1, Torn-patched (contents start past) offset bytes.items both.0)
Images-contents start (Resize size ∷ past) inside = (contents start past, Images-contents start past inside, Resized-resized (contents start past) size)
Images-contents start (Sync ∷ past) inside = refl

pub LeftSince-now : (start : List ℕ) (past : List Operation) (t : ℕ) (c : List ℕ) → Images start past c → LeftSince start past t c
LeftSince-now start [] t c now = now
LeftSince-now start (operation ∷ past) t c now = inl now

pub LeftSince-only : (start : List ℕ) (past : List Operation) (c : List ℕ) → LeftSince start past (length past) c → Images start past c
LeftSince-only start [] c left = left
LeftSince-only start (operation ∷ past) c (inl now) = now
LeftSince-only start (operation ∷ past) c (inr before) = absurd (omega (arith, before.0))

pub LeftSince-earlier : (start : List ℕ) (past : List Operation) (s t : ℕ) (c : List ℕ) → s ≤ t → LeftSince start past t c → LeftSince start past s c
LeftSince-earlier start [] s t c le left = left
LeftSince-earlier start (operation ∷ past) s t c le (inl now) = inl now
LeftSince-earlier start (operation ∷ past) s t c le (inr before) = inr (omega (arith, le, before.0), LeftSince-earlier start past s t c le before.1)
