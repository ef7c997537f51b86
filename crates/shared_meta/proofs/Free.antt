-- Records that don't disturb each other, one by one and in logs.
use Rattle.std.proofs.Common.{ℕ, List, [], ◌∷◌, ◌++◌, sym, inl, inr}
use Rattle.std.specs.List.{All}
use Rattle.std.proofs.lemmas.List.Elements.{All-nil, All-cons, All-head, All-tail, All-append}
use Rattle.ccfs_base.specs.declared.records.Rec.{Rec}
use Rattle.ccfs_base.specs.declared.records.Rec.TheVariants as recs
use Rattle.ccfs_base.specs.Records.{acts_at, RaiseOne, AreInside, AreFree}
use Rattle.delta_log.specs.Laws.{AllFree}
use Rattle.delta_log.proofs.Records.{apart_sym}

raise_sym : (rec other : Rec) → RaiseOne rec other → RaiseOne other rec
raise_sym (recs.Range off bytes) (recs.Range at new) h = h
raise_sym (recs.Range off bytes) (recs.Add at by) h = h
raise_sym (recs.Range off bytes) (recs.Bit at bit on) h = h
raise_sym (recs.Add off by) (recs.Range at new) h = h
raise_sym (recs.Add off by) (recs.Add at more) h = sym h
raise_sym (recs.Add off by) (recs.Bit at bit on) h = h
raise_sym (recs.Bit off bit on) (recs.Range at new) h = h
raise_sym (recs.Bit off bit on) (recs.Add at by) h = h
raise_sym (recs.Bit off bit on) (recs.Bit at other to) h = h

pub free_sym : (rec other : Rec) → AreFree rec other → AreFree other rec
free_sym rec other (inl h) = inl (apart_sym (acts_at rec) (acts_at other) h)
free_sym rec other (inr h) = inr (raise_sym rec other h)

-- a record that is free of a log: each record of the log is free of it
pub all_free_of : (rec : Rec) (log : List Rec) → All (AreFree rec) log → AllFree log (rec ∷ [])
all_free_of rec [] h = All-nil (λ (other : Rec). All (AreFree other) (rec ∷ []))
all_free_of rec (other ∷ rest) h =
    All-cons (λ (some : Rec). All (AreFree some) (rec ∷ [])) other rest
    (All-cons (AreFree other) rec [] (free_sym rec other (All-head (AreFree rec) other rest h)) (All-nil (AreFree other)))
    (all_free_of rec rest (All-tail (AreFree rec) other rest h))

-- a log of one record
pub one_free : (rec : Rec) (log : List Rec) → All (AreFree rec) log → AllFree (rec ∷ []) log
one_free rec log h = All-cons (λ (some : Rec). All (AreFree some) log) rec [] h (All-nil (λ (some : Rec). All (AreFree some) log))

-- two lists joined, of which both are free of a log
pub free_before : (log more other : List Rec) → AllFree log other → AllFree more other → AllFree (log ++ more) other
free_before log more other h i = All-append (λ (some : Rec). All (AreFree some) other) log more h i

-- a log that is free of two lists is free of them joined
pub free_behind : (log other more : List Rec) → AllFree log other → AllFree log more → AllFree log (other ++ more)
free_behind [] other more h i = All-nil (λ (some : Rec). All (AreFree some) (other ++ more))
free_behind (rec ∷ rest) other more h i =
    All-cons (λ (some : Rec). All (AreFree some) (other ++ more)) rec rest
    (All-append (AreFree rec) other more (All-head (λ (some : Rec). All (AreFree some) other) rec rest h) (All-head (λ (some : Rec). All (AreFree some) more) rec rest i))
    (free_behind rest other more (All-tail (λ (some : Rec). All (AreFree some) other) rec rest h) (All-tail (λ (some : Rec). All (AreFree some) more) rec rest i))

pub inside_append : (size : ℕ) (log more : List Rec) → AreInside size log → AreInside size more → AreInside size (log ++ more)
inside_append size [] more h i = i
inside_append size (rec ∷ rest) more h i = (h.0, inside_append size rest more h.1 i)

pub inside_first : (size : ℕ) (log more : List Rec) → AreInside size (log ++ more) → AreInside size log
inside_first size [] more h = tt
inside_first size (rec ∷ rest) more h = (h.0, inside_first size rest more h.1)

pub inside_rest : (size : ℕ) (log more : List Rec) → AreInside size (log ++ more) → AreInside size more
inside_rest size [] more h = h
inside_rest size (rec ∷ rest) more h = inside_rest size rest more h.1

pub first_free : (log more other : List Rec) → AllFree (log ++ more) other → AllFree log other
first_free [] more other h = All-nil (λ (some : Rec). All (AreFree some) other)
first_free (rec ∷ rest) more other h =
    All-cons (λ (some : Rec). All (AreFree some) other) rec rest
    (All-head (λ (some : Rec). All (AreFree some) other) rec (rest ++ more) h)
    (first_free rest more other (All-tail (λ (some : Rec). All (AreFree some) other) rec (rest ++ more) h))

pub rest_free : (log more other : List Rec) → AllFree (log ++ more) other → AllFree more other
rest_free [] more other h = h
rest_free (rec ∷ rest) more other h = rest_free rest more other (All-tail (λ (some : Rec). All (AreFree some) other) rec (rest ++ more) h)

pub all_first : (P : Rec → Type 0) (log more : List Rec) → All P (log ++ more) → All P log
all_first P [] more h = All-nil P
all_first P (rec ∷ rest) more h = All-cons P rec rest (All-head P rec (rest ++ more) h) (all_first P rest more (All-tail P rec (rest ++ more) h))

pub all_rest : (P : Rec → Type 0) (log more : List Rec) → All P (log ++ more) → All P more
all_rest P [] more h = h
all_rest P (rec ∷ rest) more h = all_rest P rest more (All-tail P rec (rest ++ more) h)

pub free_of_first : (log other more : List Rec) → AllFree log (other ++ more) → AllFree log other
free_of_first log other more h = λ k d i. all_first (AreFree _) other more (h k d i)

pub free_of_rest : (log other more : List Rec) → AllFree log (other ++ more) → AllFree log more
free_of_rest log other more h = λ k d i. all_rest (AreFree _) other more (h k d i)

pub free_of_none : (log : List Rec) → AllFree log []
free_of_none log = λ k d i. All-nil (AreFree _)
