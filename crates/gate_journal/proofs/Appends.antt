-- The journal of an image that is changed behind the last batch of another.
use Rattle.std.proofs.Common.{◌≡◌, ℕ, ◌+◌, ◌≤◌, ◌<◌, Bool, true, false, Option, Some, None, List, [], ◌∷◌, ◌++◌, length, set, take, drop, refl, sym, ◌∙◌, ap, subst, append-nil, length-append}
use Rattle.std.specs.List.{list_any, position_or_len}
use Rattle.std.proofs.lemmas.Grind.{flat_map-append}
use Rattle.std.proofs.lemmas.Option.{none-some}
use Rattle.std.proofs.lemmas.List.{take_at, take-append-drop}
use Rattle.gate_journal.specs.declared.batches.Range.{Range}
use Rattle.gate_journal.specs.declared.batches.Batch.{Batch}
use Rattle.gate_journal.specs.Batches.{batch_bytes, batches_bytes, batches_at, may_follow, Fits}
use Rattle.gate_journal.specs.Journal.{Journal, gates_of, records_of, open_gates, is_open, is_open_behind, open_batches, batches_read, last_after, all_ranges, summed, journal}
use Rattle.gate_journal.specs.Halves.{with_batch}
use Rattle.gate_journal.specs.Appending.{and_batch}
use Rattle.gate_journal.proofs.Gates.{is_closed, gates_next, none_open_behind}
use Rattle.gate_journal.proofs.ReadBatches.{read_front, read_again, read_more}
use Rattle.gate_journal.proofs.WrittenBatches.{batch_is_read}

-- what batches come to
abbrev pub sum_of : Bool → List Batch → Journal
sum_of behind batches = record { count = length batches; used = length (batches_bytes batches); last = last_after None batches; ranges = all_ranges batches; behind = behind }

abbrev value_or : {A : Type 0} → A → Option A → A
value_or a None = a
value_or a (Some x) = x

pub same_value : {A : Type 0} (a b : A) → Some a ≡ Some b → a ≡ b
same_value {A} a b is = ap (value_or a) is

-- a known journal is read from batches
pub summed_from : (behind : Bool) (read : Option (List Batch × List ℕ)) (j : Journal) → summed behind (batches_read read) ≡ Some j → (p : List Batch × List ℕ) × (read ≡ Some p) × (sum_of behind p.0 ≡ j)
summed_from behind None j is = absurd (none-some j is)
summed_from behind (Some p) j is = (p, refl, same_value (sum_of behind p.0) j is)

pub last_of_more : (before : Option ℕ) (bs : List Batch) (b : Batch) → last_after before (bs ++ b ∷ []) ≡ Some b.number
last_of_more before [] b = refl
last_of_more before (x ∷ xs) b = last_of_more (Some x.number) xs b

pub ranges_of_more : (bs : List Batch) (b : Batch) → all_ranges (bs ++ b ∷ []) ≡ all_ranges bs ++ b.ranges
ranges_of_more bs b = flat_map-append (λ (x : Batch). x.ranges) bs (b ∷ []) ∙ ap (λ (l : List Range). all_ranges bs ++ l) (append-nil b.ranges)

used_of_more : (bs : List Batch) (b : Batch) → length (batches_bytes (bs ++ b ∷ [])) ≡ length (batches_bytes bs) + length (batch_bytes b)
used_of_more bs b = ap length (flat_map-append batch_bytes bs (b ∷ []) ∙ ap (λ (l : List ℕ). batches_bytes bs ++ l) (append-nil (batch_bytes b))) ∙ length-append (batches_bytes bs) (batch_bytes b)

sum_of_more : (behind : Bool) (bs : List Batch) (b : Batch) → sum_of behind (bs ++ b ∷ []) ≡ with_batch (sum_of behind bs) b
sum_of_more behind bs b =
    let count : length (bs ++ b ∷ []) ≡ length bs + 1 = length-append bs (b ∷ []) in
    λ i. record { count = count i; used = used_of_more bs b i; last = last_of_more None bs b i; ranges = ranges_of_more bs b i; behind = behind }

module _ (half size : ℕ) (d : List ℕ) (j : Journal) (is : journal half size d ≡ Some j) where
  known : (p : List Batch × List ℕ) × (batches_at size None (open_gates half d) (records_of half d) ≡ Some p) × (sum_of (is_open_behind half d) p.0 ≡ j)
  known = summed_from (is_open_behind half d) (batches_at size None (open_gates half d) (records_of half d)) j is

  -- as many gates are open as batches are known
  pub count_is : open_gates half d ≡ j.count
  count_is = let k = known in sym (read_front size (open_gates half d) None (records_of half d) k.0.0 k.0.1 k.1).3.many ∙ ap (λ (x : Journal). x.count) k.2

  pub behind_is : is_open_behind half d ≡ j.behind
  behind_is = ap (λ (x : Journal). x.behind) known.2

  -- the bytes of the known batches are the front of the record area
  front_is : (front : List ℕ) × (records_of half d ≡ front ++ known.0.1) × (front ≡ take j.used (records_of half d))
  front_is =
      let k = known in let f = read_front size (open_gates half d) None (records_of half d) k.0.0 k.0.1 k.1 in
      (f.0, f.1, sym (take_at f.0 k.0.1 j.used (f.2 ∙ ap (λ (x : Journal). x.used) k.2)) ∙ ap (take j.used) (sym f.1))

  read_there : (c : List ℕ) → open_gates half c ≡ open_gates half d → take j.used (records_of half c) ≡ take j.used (records_of half d)
      → batches_at size None (open_gates half d) (records_of half c) ≡ Some (known.0.0, drop j.used (records_of half c))
  read_there c gates same =
      let k = known in let f = front_is in
      let whole : f.0 ++ drop j.used (records_of half c) ≡ records_of half c = ap (λ (l : List ℕ). l ++ drop j.used (records_of half c)) (f.2 ∙ sym same) ∙ take-append-drop j.used (records_of half c) in
      subst (λ (l : List ℕ). batches_at size None (open_gates half d) l ≡ Some (k.0.0, drop j.used (records_of half c))) whole
      (read_again size (open_gates half d) None f.0 k.0.0 k.0.1 (drop j.used (records_of half c)) (subst (λ (l : List ℕ). batches_at size None (open_gates half d) l ≡ Some k.0) f.1 k.1))

  open_there : open_batches half size d ≡ Some known.0.0
  open_there = ap batches_read known.1

  -- the same batches, where as many gates are open and their bytes are the same
  pub same_batches : (c : List ℕ) → open_gates half c ≡ open_gates half d → take j.used (records_of half c) ≡ take j.used (records_of half d)
      → open_batches half size c ≡ open_batches half size d
  same_batches c gates same =
      ap (λ (n : ℕ). batches_read (batches_at size None n (records_of half c))) gates
      ∙ ap batches_read (read_there c gates same) ∙ sym open_there

  -- one batch more, where its gate is open and its bytes stand behind the others
  module _ (c : List ℕ) (b : Batch) (rest : List ℕ) (gates : gates_of half c ≡ set (gates_of half d) j.count 165) (room : j.count < length (gates_of half d)) (none : j.behind ≡ false)
      (bytes : records_of half c ≡ take j.used (records_of half d) ++ (batch_bytes b ++ rest)) (within : j.used ≤ length (records_of half d)) (fits : Fits size b) (follows : may_follow j.last b.number ≡ true) where
    no_open : list_any is_open (drop j.count (gates_of half d)) ≡ false
    no_open = ap (λ (n : ℕ). list_any is_open (drop n (gates_of half d))) (sym count_is) ∙ behind_is ∙ none

    pub one_more_gate : open_gates half c ≡ j.count + 1
    one_more_gate = ap (position_or_len is_closed) gates ∙ gates_next (gates_of half d) j.count count_is room no_open

    none_behind_there : is_open_behind half c ≡ j.behind
    none_behind_there = ap (λ (n : ℕ). list_any is_open (drop n (gates_of half c))) one_more_gate ∙ ap (λ (l : List ℕ). list_any is_open (drop (j.count + 1) l)) gates ∙ none_open_behind (gates_of half d) j.count room no_open ∙ sym none

    read_more_there : batches_at size None (j.count + 1) (records_of half c) ≡ Some (known.0.0 ++ b ∷ [], rest)
    read_more_there =
        let k = known in let f = front_is in
        let again : batches_at size None (open_gates half d) (f.0 ++ (batch_bytes b ++ rest)) ≡ Some (k.0.0, batch_bytes b ++ rest)
        = read_again size (open_gates half d) None f.0 k.0.0 k.0.1 (batch_bytes b ++ rest) (subst (λ (l : List ℕ). batches_at size None (open_gates half d) l ≡ Some k.0) f.1 k.1) in
        let last : last_after None k.0.0 ≡ j.last = ap (λ (x : Journal). x.last) k.2 in
        ap (λ (l : List ℕ). batches_at size None (j.count + 1) l) (bytes ∙ ap (λ (l : List ℕ). l ++ (batch_bytes b ++ rest)) (sym f.2))
        ∙ ap (λ (n : ℕ). batches_at size None (n + 1) (f.0 ++ (batch_bytes b ++ rest))) (sym count_is)
        ∙ read_more size (open_gates half d) None (f.0 ++ (batch_bytes b ++ rest)) k.0.0 (batch_bytes b ++ rest) b rest again (batch_is_read size b rest fits)
        (ap (λ (o : Option ℕ). may_follow o b.number) last ∙ follows)

    open_more : open_batches half size c ≡ Some (known.0.0 ++ b ∷ [])
    open_more = ap (λ (n : ℕ). batches_read (batches_at size None n (records_of half c))) one_more_gate ∙ ap batches_read read_more_there

    pub next_batches : open_batches half size c ≡ and_batch (open_batches half size d) b
    next_batches = open_more ∙ sym (ap (λ (o : Option (List Batch)). and_batch o b) open_there)

    pub next_journal : journal half size c ≡ Some (with_batch j b)
    next_journal =
        ap (λ (x : Bool). summed x (open_batches half size c)) none_behind_there ∙ ap (summed j.behind) open_more
        ∙ ap Some (sum_of_more j.behind known.0.0 b ∙ ap (λ (x : Journal). with_batch x b) (ap (λ (x : Bool). sum_of x known.0.0) (sym behind_is) ∙ known.2))
