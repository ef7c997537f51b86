-- The batch of a seal is what was unsealed of its stream.
use Rattle.std.proofs.Common.{◌≡◌, ℕ, suc, ◌+◌, ◌≤◌, ◌≢◌, inl, inr, List, [], ◌∷◌, ◌++◌, refl, sym, ap, subst, arith, ◌∙◌, eqb, ltb, take, length, reverse}
use Rattle.std.specs.Prelude.{Bool, true, false, cond, not, ◌&&◌, ◌||◌}
use Rattle.std.proofs.lemmas.Bool.{lt-ltb, le-ltb, eqb-true, eq-eqb, ne_eqb, cases_eq}
use Rattle.std.proofs.lemmas.List.{append-nil, append_assoc, take_at, length-append}
use Rattle.std.proofs.lemmas.Grind.{reverse_onto}
use Rattle.stream_cuts.specs.Streams.{Step, Enter, Seal, no_counts, with_count, one_more, entered, counts_after, keep_if, without, of_stream, unsealed_after}
use Rattle.stream_cuts.specs.Cuts.{between_from, between, seals_from, seals, cut_of, cut_at, batch}
use Rattle.stream_cuts.proofs.Counts.{one_more_here, one_more_above, with_count_here, with_count_apart, with_count_below, more_below}
use Rattle.stream_cuts.proofs.Sealed.{sealed_in, cut_sealed, cut_open}
use Rattle.stream_cuts.proofs.Closed.{cut_below}
use Rattle.stream_cuts.proofs.Longer.{entered_append, seals_append}
use Rattle.stream_cuts.proofs.AllKept.{cut_at_end}

pub cut_of_append : (c : ℕ → ℕ) (p q : List (ℕ × ℕ)) → cut_of c (p ++ q) ≡ cut_of (cut_of c p) q
cut_of_append c [] q = refl
cut_of_append c (x ∷ p) q = cut_of_append (with_count c x.0 x.1) p q

module _ {U : Type 0} where
  -- the updates of a stream that enter behind its last seal in these steps, in their order
  abbrev fresh : ℕ → List (Step U) → List (ℕ × U)
  fresh s [] = []
  fresh s (Enter r u ∷ l) = keep_if (eqb r s && not (sealed_in s l)) (r, u) (fresh s l)
  fresh s (Seal r ∷ l) = fresh s l

  pub none_of_stream : (s : ℕ) (h : List (ℕ × U)) → of_stream s (without s h) ≡ []
  none_of_stream s [] = refl
  none_of_stream s (e ∷ h) = let ih = none_of_stream s h in
      elim (eqb e.0 s) as (λ b. eqb e.0 s ≡ b → of_stream s (keep_if (not b) e (without s h)) ≡ []) [
        | true ↦ λ p. ih
        | false ↦ λ p. ap (λ b. keep_if b e (of_stream s (without s h))) p ∙ ih
      ] refl

  pub other_stream : (s r : ℕ) (h : List (ℕ × U)) → s ≢ r → of_stream s (without r h) ≡ of_stream s h
  other_stream s r [] ne = refl
  other_stream s r (e ∷ h) ne = let ih = other_stream s r h ne in
      elim (eqb e.0 r) as (λ b. eqb e.0 r ≡ b → of_stream s (keep_if (not b) e (without r h)) ≡ keep_if (eqb e.0 s) e (of_stream s h)) [
        | true ↦ λ p. ih ∙ ap (λ b. keep_if b e (of_stream s h)) (sym (ne_eqb e.0 s (λ q. ne (sym q ∙ eqb-true e.0 r p))))
        | false ↦ λ p. ap (keep_if (eqb e.0 s) e) ih
      ] refl

  cond_same : (b : Bool) → cond b [] [] ≡ (let z : List (ℕ × U) = [] in z)
  cond_same true = refl
  cond_same false = refl

  -- what is unsealed of a stream at the end: what was before, where these steps don't seal it, and what enters behind its last seal
  unsealed_fresh : (s : ℕ) (h : List (ℕ × U)) (l : List (Step U)) → reverse (of_stream s (unsealed_after h l)) ≡ cond (sealed_in s l) [] (reverse (of_stream s h)) ++ fresh s l
  unsealed_fresh s h [] = sym (append-nil (reverse (of_stream s h)))
  unsealed_fresh s h (Enter r u ∷ l) =
      let R : Bool → List (ℕ × U) = λ b. reverse (keep_if b (r, u) (of_stream s h)) in
      unsealed_fresh s ((r, u) ∷ h) l ∙ (elim (eqb r s) as (λ b. cond (sealed_in s l) [] (R b) ++ fresh s l ≡ cond (sealed_in s l) [] (reverse (of_stream s h)) ++ keep_if (b && not (sealed_in s l)) (r, u) (fresh s l)) [
        | true ↦ elim (sealed_in s l) as (λ z. cond z [] (R true) ++ fresh s l ≡ cond z [] (reverse (of_stream s h)) ++ keep_if (not z) (r, u) (fresh s l)) [
          | true ↦ refl
          | false ↦ ap (λ z. z ++ fresh s l) (reverse_onto (of_stream s h) (r, u) []) ∙ append_assoc (reverse (of_stream s h)) ((r, u) ∷ []) (fresh s l)
        ]
        | false ↦ refl
      ])
  unsealed_fresh s h (Seal r ∷ l) = unsealed_fresh s (without r h) l ∙ (elim (cases_eq s r) [
    | inl e ↦
        let none : of_stream s (without r h) ≡ [] = subst (λ z. of_stream s (without z h) ≡ []) e (none_of_stream s h) in
        ap (λ z. cond (sealed_in s l) [] (reverse z) ++ fresh s l) none ∙ ap (λ z. z ++ fresh s l) (cond_same (sealed_in s l))
        ∙ ap (λ b. cond (b || sealed_in s l) [] (reverse (of_stream s h)) ++ fresh s l) (sym (eq-eqb s r e))
    | inr ne ↦ ap (λ z. cond (sealed_in s l) [] (reverse z) ++ fresh s l) (other_stream s r h ne)
        ∙ ap (λ b. cond (b || sealed_in s l) [] (reverse (of_stream s h)) ++ fresh s l) (sym (ne_eqb s r ne))
  ])

  counts_up : (seen : ℕ → ℕ) (h : List (ℕ × U)) (q : ℕ) → seen q ≤ counts_after seen h q
  counts_up seen [] q = omega arith
  counts_up seen (e ∷ h) q = let ih = counts_up (one_more seen e.0) h q in let up = one_more_above seen e.0 q in omega arith

  -- between the cut of these steps' seals and the cut with all of the stream's updates
  between_fresh : (s : ℕ) (seen c d : ℕ → ℕ) (l : List (Step U)) → ((q : ℕ) → c q ≤ seen q)
      → d s ≡ counts_after seen (entered l) s → ((q : ℕ) → s ≢ q → d q ≡ cut_of c (seals_from seen l) q)
      → between_from seen (cut_of c (seals_from seen l)) d (entered l) ≡ fresh s l
  between_fresh s seen c d [] le all same = refl
  between_fresh s seen c d (Enter r u ∷ l) le all same =
      let C : ℕ → ℕ = cut_of c (seals_from (one_more seen r) l) in
      let low = more_below c seen r le in
      let ih : between_from (one_more seen r) C d (entered l) ≡ fresh s l = between_fresh s (one_more seen r) c d l low all same in
      let head : (ltb (seen r) (d r) && not (ltb (seen r) (C r))) ≡ (eqb r s && not (sealed_in s l)) = elim (cases_eq r s) [
        | inl e ↦
            let C2 : ℕ → ℕ = cut_of c (seals_from (one_more seen s) l) in
            let here : (ltb (seen s) (d s) && not (ltb (seen s) (C2 s))) ≡ (eqb s s && not (sealed_in s l)) =
            (let own : d s ≡ counts_after (one_more seen s) (entered l) s = subst (λ z. d s ≡ counts_after (one_more seen z) (entered l) s) e all in
            let up = counts_up (one_more seen s) (entered l) s in
            let one = one_more_here seen s in
            let below = more_below c seen s le in
            ap (λ b. b && not (ltb (seen s) (C2 s))) (lt-ltb (seen s) (d s) (omega arith))
            ∙ (elim (sealed_in s l) as (λ z. sealed_in s l ≡ z → not (ltb (seen s) (C2 s)) ≡ not z) [
              | true ↦ λ p. ap not (let h = cut_sealed (one_more seen s) c l s below p in lt-ltb (seen s) (C2 s) (omega arith))
              | false ↦ λ p. ap not (let h = cut_open (one_more seen s) c l s p in let g = le s in le-ltb (seen s) (C2 s) (omega arith))
            ] refl)
            ∙ ap (λ b. b && not (sealed_in s l)) (sym (eq-eqb s s refl))) in
            subst (λ z. (ltb (seen z) (d z) && not (ltb (seen z) (cut_of c (seals_from (one_more seen z) l) z))) ≡ (eqb z s && not (sealed_in s l))) (sym e) here
        | inr ne ↦
            ap (λ z. ltb (seen r) z && not (ltb (seen r) (C r))) (same r (λ q. ne (sym q)))
            ∙ (elim (ltb (seen r) (C r)) as (λ b. (b && not b) ≡ false) [ true ↦ refl | false ↦ refl ])
            ∙ ap (λ b. b && not (sealed_in s l)) (sym (ne_eqb r s ne))
      ] in
      ap (λ b. keep_if b (r, u) (between_from (one_more seen r) C d (entered l))) head ∙ ap (keep_if (eqb r s && not (sealed_in s l)) (r, u)) ih
  between_fresh s seen c d (Seal r ∷ l) le all same = between_fresh s seen (with_count c r (seen r)) d l (with_count_below c seen r le) all same

  between_append : (seen c d : ℕ → ℕ) (h g : List (ℕ × U)) → between_from seen c d (h ++ g) ≡ between_from seen c d h ++ between_from (counts_after seen h) c d g
  between_append seen c d [] g = refl
  between_append seen c d (e ∷ h) g =
      let ih = between_append (one_more seen e.0) c d h g in
      elim (ltb (seen e.0) (d e.0) && not (ltb (seen e.0) (c e.0)))
      as (λ b. keep_if b e (between_from (one_more seen e.0) c d (h ++ g)) ≡ keep_if b e (between_from (one_more seen e.0) c d h) ++ between_from (counts_after (one_more seen e.0) h) c d g) [
        | true ↦ ap (λ z. e ∷ z) ih
        | false ↦ ih
      ]

  between_none : (seen c d : ℕ → ℕ) (h : List (ℕ × U)) → ((q : ℕ) → d q ≤ seen q) → between_from seen c d h ≡ []
  between_none seen c d [] le = refl
  between_none seen c d (e ∷ h) le =
      ap (λ b. keep_if (b && not (ltb (seen e.0) (c e.0))) e (between_from (one_more seen e.0) c d h)) (le-ltb (seen e.0) (d e.0) (le e.0))
      ∙ between_none (one_more seen e.0) c d h (more_below d seen e.0 le)

  -- a seal's cut is the one before it, with all updates so far of the stream
  pub cuts_of_seal : (l k : List (Step U)) (s : ℕ)
      → (cut_at (l ++ Seal s ∷ k) (length (seals l)) ≡ cut_of no_counts (seals l))
      × (cut_at (l ++ Seal s ∷ k) (suc (length (seals l))) ≡ with_count (cut_of no_counts (seals l)) s (counts_after no_counts (entered l) s))
  cuts_of_seal l k s =
      let N : ℕ = counts_after no_counts (entered l) s in
      let tail : List (ℕ × ℕ) = seals_from (counts_after no_counts (entered l)) k in
      let whole : seals (l ++ Seal s ∷ k) ≡ seals l ++ (s, N) ∷ tail = seals_append l (Seal s ∷ k) in (
        ap (λ z. cut_of no_counts (take (length (seals l)) z)) whole ∙ ap (cut_of no_counts) (take_at (seals l) ((s, N) ∷ tail) (length (seals l)) refl),
        ap (λ z. cut_of no_counts (take (suc (length (seals l))) z)) (whole ∙ sym (append_assoc (seals l) ((s, N) ∷ []) tail))
            ∙ ap (cut_of no_counts) (take_at (seals l ++ (s, N) ∷ []) tail (suc (length (seals l))) (length-append (seals l) ((s, N) ∷ []) ∙ (let z : length (seals l) + 1 ≡ suc (length (seals l)) = omega arith in z)))
            ∙ cut_of_append no_counts (seals l) ((s, N) ∷ []),
      )

  pub batch_of_seal : (l k : List (Step U)) (s : ℕ) → batch (l ++ Seal s ∷ k) (length (seals l)) ≡ reverse (of_stream s (unsealed_after [] l))
  batch_of_seal l k s =
      let N : ℕ → ℕ = counts_after no_counts (entered l) in
      let C : ℕ → ℕ = cut_of no_counts (seals l) in
      let D : ℕ → ℕ = with_count C s (N s) in
      let both = cuts_of_seal l k s in
      let low : (q : ℕ) → no_counts q ≤ no_counts q = λ q. let z : 0 ≤ 0 = omega arith in z in
      let capped : (q : ℕ) → C q ≤ N q = λ q. subst (λ z. z q ≤ N q) (cut_at_end l) (cut_below no_counts no_counts (length (seals l)) l low q) in
      let past : between_from N C D (entered k) ≡ [] = between_none N C D (entered k) (λ q. with_count_below C N s capped q) in
      let first : between_from no_counts C D (entered l) ≡ fresh s l =
      between_fresh s no_counts no_counts D l low (with_count_here C s (N s)) (λ q ne. with_count_apart C s (N s) q ne) in
      ap (λ z. between (entered (l ++ Seal s ∷ k)) z (cut_at (l ++ Seal s ∷ k) (suc (length (seals l))))) both.0
      ∙ ap (λ z. between (entered (l ++ Seal s ∷ k)) C z) both.1
      ∙ ap (λ z. between z C D) (entered_append l (Seal s ∷ k))
      ∙ between_append no_counts C D (entered l) (entered k)
      ∙ ap (λ z. between_from no_counts C D (entered l) ++ z) past ∙ append-nil (between_from no_counts C D (entered l))
      ∙ first ∙ sym (unsealed_fresh s [] l ∙ ap (λ z. z ++ fresh s l) (cond_same (sealed_in s l)))
