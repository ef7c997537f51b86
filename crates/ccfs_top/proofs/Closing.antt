-- How the top call ends after a stop, and after an end.
use Rattle.std.proofs.Common.{◌≡◌, ◌⊎◌, inl, inr, ℕ, ◌≤◌, Bool, true, false, cond, List, [], ◌++◌, length, take, refl, sym, ap, ◌∙◌, subst, arith, append_assoc, length-append}
use Rattle.std.proofs.lemmas.List.{append-nil, nil_from_length}
use Rattle.std.specs.declared.option.Option.{Option}
use Rattle.std.specs.declared.option.Option.TheVariants.{None, Some}
use Rattle.std.specs.declared.result.Result.{Result}
use Rattle.std.specs.declared.result.Result.TheVariants.{Ok, Err}
use Rattle.tree_model.specs.Rows.{Rows}
use Rattle.script_text.specs.declared.scripts.Call.{Call}
use Rattle.script_text.specs.Scripts.{calls_of, first_unbuilt, is_long}
use Rattle.script_text.specs.Texts.{usage_line, too_long_line, bad_image_line, bad_line_line, not_built_line, memory_fault_line}
use Rattle.image_check.specs.Kinds.{kind_name}
use Rattle.ccfs_top.specs.declared.stop.Stop.{Stop}
use Rattle.ccfs_top.specs.declared.stop.Stop.TheVariants.{Usage, Long, BadLine, NotBuilt, Source, Sink, Disk, BadImage, NoMemory}
use Rattle.ccfs_top.specs.Ends.{IsSaid, IsFault, HasLine, Ends, EndsWith, IsMadeStatus, IsRefusal, IsRunStatus, Wrote, joined}
use Rattle.ccfs_top.specs.Images.{Image, Finding, Good, Spoilt, Unread}
use Rattle.ccfs_top.specs.Runs.{Expected, IsReady, alone, ran, over, over_calls, over_script, expected, printed, fresh}
use Rattle.ccfs_top.specs.Stops.{status_of, stop_line, Told, SaidOf, Decides, Until, Grew, IsFaultStop, IsLate}

-- ---- a stop by the script

-- the source failed, the script is too long, there was no memory, a line isn't a command, or one isn't built
abbrev pub OfScript : Stop → Type 0
OfScript s = (s ≡ Source) ⊎ (s ≡ Long) ⊎ (s ≡ NoMemory) ⊎ ((line : ℕ) × (s ≡ BadLine line)) ⊎ ((line : ℕ) × (s ≡ NotBuilt line))

-- what is to come of a script that was refused so
pub record Refused (e : Expected) (s : Stop) : Type 0 where
  pub kind : OfScript s
  pub long : s ≡ Long → e ≡ alone 4 too_long_line
  pub bad : (line : ℕ) → s ≡ BadLine line → e ≡ alone 3 (bad_line_line line)
  pub halt : (line : ℕ) → s ≡ NotBuilt line → e ≡ alone 1 (not_built_line line)

no_other : (s : Stop) → OfScript s → (s ≡ Source → ⊥) → (s ≡ Long → ⊥) → (s ≡ NoMemory → ⊥) → ((line : ℕ) → s ≡ BadLine line → ⊥) → ((line : ℕ) → s ≡ NotBuilt line → ⊥) → ⊥
no_other s (inl is) a b c d e = a is
no_other s (inr (inl is)) a b c d e = b is
no_other s (inr (inr (inl is))) a b c d e = c is
no_other s (inr (inr (inr (inl is)))) a b c d e = d is.0 is.1
no_other s (inr (inr (inr (inr is)))) a b c d e = e is.0 is.1

pub script_decides : (e : Expected) (s : Stop) → Refused e s → Decides e s
script_decides e Usage r = absurd (no_other Usage r.kind (λ p. cc p) (λ p. cc p) (λ p. cc p) (λ _ p. cc p) (λ _ p. cc p))
script_decides e Long r = r.long refl
script_decides e (BadLine line) r = r.bad line refl
script_decides e (NotBuilt line) r = r.halt line refl
script_decides e Source r = tt
script_decides e Sink r = absurd (no_other Sink r.kind (λ p. cc p) (λ p. cc p) (λ p. cc p) (λ _ p. cc p) (λ _ p. cc p))
script_decides e Disk r = tt
script_decides e (BadImage bad) r = absurd (no_other (BadImage bad) r.kind (λ p. cc p) (λ p. cc p) (λ p. cc p) (λ _ p. cc p) (λ _ p. cc p))
script_decides e NoMemory r = tt

pub script_grew : (e : Expected) (s : Stop) (text : List ℕ) → Refused e s → Grew e s 0 text text
script_grew e Usage text r = absurd (no_other Usage r.kind (λ p. cc p) (λ p. cc p) (λ p. cc p) (λ _ p. cc p) (λ _ p. cc p))
script_grew e Long text r = ([], sym (append-nil text), refl)
script_grew e (BadLine line) text r = ([], sym (append-nil text), refl)
script_grew e (NotBuilt line) text r = ([], sym (append-nil text), refl)
script_grew e Source text r = ([], sym (append-nil text), (refl, refl))
script_grew e Sink text r = absurd (no_other Sink r.kind (λ p. cc p) (λ p. cc p) (λ p. cc p) (λ _ p. cc p) (λ _ p. cc p))
script_grew e Disk text r = absurd (no_other Disk r.kind (λ p. cc p) (λ p. cc p) (λ p. cc p) (λ _ p. cc p) (λ _ p. cc p))
script_grew e (BadImage bad) text r = absurd (no_other (BadImage bad) r.kind (λ p. cc p) (λ p. cc p) (λ p. cc p) (λ _ p. cc p) (λ _ p. cc p))
script_grew e NoMemory text r = ([], sym (append-nil text), refl)

-- ---- what is to come

-- a run that isn't to come to its end prints no number, and has no reply lines
abbrev pub IsPlain : Expected → Type 0
IsPlain e = (e.status ≡ 0) ⊎ ((e.batches ≡ 0) × (length e.replies ≡ 0))

none_for : (status : ℕ) (line : List ℕ) → IsPlain (alone status line)
none_for status line = inr (refl, refl)

plain_over : {A : Type 0} (good : A → Expected) (seen : Finding A) → ((a : A) → (good a).status ≡ 0) → IsPlain (over good seen)
plain_over good (Good a) each = inl (each a)
plain_over good (Spoilt kind block) each = none_for 8 (bad_image_line (kind_name kind) block)
plain_over good Unread each = none_for 9 memory_fault_line

plain_calls : (seen : Finding Image) (calls : List Call) (o : Option ℕ) → IsPlain (over_calls seen calls o)
plain_calls seen calls (Some line) = none_for 1 (not_built_line line)
plain_calls seen calls None = plain_over (λ (image : Image). ran image calls) seen (λ image. refl)

plain_script : (seen : Finding Image) (r : Result (List Call) ℕ) → IsPlain (over_script seen r)
plain_script seen (Err line) = none_for 3 (bad_line_line line)
plain_script seen (Ok calls) = plain_calls seen calls (first_unbuilt calls)

plain_cond : (b : Bool) (x y : Expected) → IsPlain x → IsPlain y → IsPlain (cond b x y)
plain_cond true x y p q = p
plain_cond false x y p q = q

pub plain_expected : (script : List ℕ) (seen : Finding Image) → IsPlain (expected script seen)
plain_expected script seen = plain_cond (is_long script) (alone 4 too_long_line) (over_script seen (calls_of script)) (none_for 4 too_long_line) (plain_script seen (calls_of script))

pub plain_printed : (seen : Finding (ℕ × Rows)) → IsPlain (over printed seen)
plain_printed seen = plain_over printed seen (λ p. refl)

-- a run of calls that are built
pub expected_ready : (script : List ℕ) (seen : Finding Image) (calls : List Call) → IsReady script calls → expected script seen ≡ over (λ (image : Image). ran image calls) seen
expected_ready script seen calls ready =
    ap (λ (b : Bool). cond b (alone 4 too_long_line) (over_script seen (calls_of script))) ready.short ∙ ap (over_script seen) ready.in_grammar ∙ ap (over_calls seen calls) ready.built

-- ---- the status

not_zero : (s : Stop) (code : ℕ) → Told s code → code ≡ 0 → ⊥
not_zero s code (inl is) zero = below s code is zero
  where
    below : (s : Stop) (code : ℕ) → code ≡ status_of s → code ≡ 0 → ⊥
    below Usage code is zero = omega (arith, is, zero)
    below Long code is zero = omega (arith, is, zero)
    below (BadLine line) code is zero = omega (arith, is, zero)
    below (NotBuilt line) code is zero = omega (arith, is, zero)
    below Source code is zero = omega (arith, is, zero)
    below Sink code is zero = omega (arith, is, zero)
    below Disk code is zero = omega (arith, is, zero)
    below (BadImage bad) code is zero = omega (arith, is, zero)
    below NoMemory code is zero = omega (arith, is, zero)
not_zero s code (inr is) zero = let nine = is.0 in omega (arith, nine, zero)

status_told : (e : Expected) (s : Stop) (code : ℕ) → Decides e s → Told s code → (code ≡ e.status) ⊎ IsFault code
status_told e Usage code d (inl is) = inl (is ∙ sym (ap (λ (z : Expected). z.status) d))
status_told e Long code d (inl is) = inl (is ∙ sym (ap (λ (z : Expected). z.status) d))
status_told e (BadLine line) code d (inl is) = inl (is ∙ sym (ap (λ (z : Expected). z.status) d))
status_told e (NotBuilt line) code d (inl is) = inl (is ∙ sym (ap (λ (z : Expected). z.status) d))
status_told e Source code d (inl is) = inr (inl is)
status_told e Sink code d (inl is) = inr (inr (inl is))
status_told e Disk code d (inl is) = inr (inr (inr (inl is)))
status_told e (BadImage bad) code d (inl is) = inl (is ∙ sym (ap (λ (z : Expected). z.status) d))
status_told e NoMemory code d (inl is) = inr (inr (inr (inr is)))
status_told e s code d (inr is) = inr (inr (inr (inr is.0)))

sink_told : (e : Expected) (s : Stop) (code : ℕ) → Decides e s → Told s code → code ≡ 6 → e.status ≡ 0
sink_told e Usage code d (inl is) six = absurd (omega (arith, is, six))
sink_told e Long code d (inl is) six = absurd (omega (arith, is, six))
sink_told e (BadLine line) code d (inl is) six = absurd (omega (arith, is, six))
sink_told e (NotBuilt line) code d (inl is) six = absurd (omega (arith, is, six))
sink_told e Source code d (inl is) six = absurd (omega (arith, is, six))
sink_told e Sink code d (inl is) six = d
sink_told e Disk code d (inl is) six = absurd (omega (arith, is, six))
sink_told e (BadImage bad) code d (inl is) six = absurd (omega (arith, is, six))
sink_told e NoMemory code d (inl is) six = absurd (omega (arith, is, six))
sink_told e s code d (inr is) six = let nine = is.0 in absurd (omega (arith, nine, six))

pub ends_with : (e : Expected) (s : Stop) (lines code number : ℕ) → IsPlain e → Decides e s → Told s code → lines ≤ length e.replies → number ≡ 0 → EndsWith e lines code number
ends_with e s lines code number plain d told few no_number = record {
  status = status_told e s code d told;
  batches = λ same. elim plain [
    | inl zero ↦ absurd (not_zero s code told (same ∙ zero))
    | inr none ↦ no_number ∙ sym none.0
  ];
  few = few;
  all = λ same. elim plain [
    | inl zero ↦ absurd (not_zero s code told (same ∙ zero))
    | inr none ↦ (let no = none.1 in omega (arith, few, no))
  ];
  sink = sink_told e s code d told;
}

pub ends_done : (e : Expected) (number : ℕ) → e.status ≡ 0 → number ≡ e.batches → EndsWith e (length e.replies) 0 number
ends_done e number zero is = record { status = inl (sym zero); batches = λ _. is; few = omega arith; all = λ _. refl; sink = λ six. absurd (omega (arith, six)) }

-- ---- statuses

pub late_status : (s : Stop) (code : ℕ) → Told s code → IsLate s → (6 ≤ code) × (code ≤ 9)
late_status Usage code told late = absurd late
late_status Long code told late = absurd late
late_status (BadLine line) code told late = absurd late
late_status (NotBuilt line) code told late = absurd late
late_status Source code told late = absurd late
late_status Sink code (inl is) late = (omega (arith, is), omega (arith, is))
late_status Disk code (inl is) late = (omega (arith, is), omega (arith, is))
late_status (BadImage bad) code (inl is) late = (omega (arith, is), omega (arith, is))
late_status NoMemory code (inl is) late = (omega (arith, is), omega (arith, is))
late_status s code (inr nine) late = let is = nine.0 in (omega (arith, is), omega (arith, is))

pub fault_status : (s : Stop) (code : ℕ) → Told s code → IsFaultStop s → IsMadeStatus code
fault_status Usage code told fault = absurd fault
fault_status Long code told fault = absurd fault
fault_status (BadLine line) code told fault = absurd fault
fault_status (NotBuilt line) code told fault = absurd fault
fault_status Source code told fault = absurd fault
fault_status Sink code (inl is) fault = inr (inl is)
fault_status Disk code (inl is) fault = inr (inr (inl is))
fault_status (BadImage bad) code told fault = absurd fault
fault_status NoMemory code (inl is) fault = inr (inr (inr is))
fault_status s code (inr nine) fault = inr (inr (inr nine.0))

pub run_status : (s : Stop) (code : ℕ) → Told s code → (s ≡ Usage → ⊥) → IsRunStatus code
run_status s code told not = (below s code told, λ two. two_is s code told not two)
  where
    below : (s : Stop) (code : ℕ) → Told s code → code ≤ 9
    below Usage code (inl is) = omega (arith, is)
    below Long code (inl is) = omega (arith, is)
    below (BadLine line) code (inl is) = omega (arith, is)
    below (NotBuilt line) code (inl is) = omega (arith, is)
    below Source code (inl is) = omega (arith, is)
    below Sink code (inl is) = omega (arith, is)
    below Disk code (inl is) = omega (arith, is)
    below (BadImage bad) code (inl is) = omega (arith, is)
    below NoMemory code (inl is) = omega (arith, is)
    below s code (inr nine) = let is = nine.0 in omega (arith, is)

    two_is : (s : Stop) (code : ℕ) → Told s code → (s ≡ Usage → ⊥) → code ≡ 2 → ⊥
    two_is Usage code told not two = not refl
    two_is Long code (inl is) not two = omega (arith, is, two)
    two_is (BadLine line) code (inl is) not two = omega (arith, is, two)
    two_is (NotBuilt line) code (inl is) not two = omega (arith, is, two)
    two_is Source code (inl is) not two = omega (arith, is, two)
    two_is Sink code (inl is) not two = omega (arith, is, two)
    two_is Disk code (inl is) not two = omega (arith, is, two)
    two_is (BadImage bad) code (inl is) not two = omega (arith, is, two)
    two_is NoMemory code (inl is) not two = omega (arith, is, two)
    two_is s code (inr nine) not two = let is = nine.0 in omega (arith, is, two)

-- an early status is that of no late stop
pub early_stop : (s : Stop) (code : ℕ) → Told s code → code ≤ 5 → IsLate s → ⊥
early_stop s code told low late = let at = (late_status s code told late).0 in omega (arith, at, low)

-- a refusal of a script has the status that was to come
pub refusal_status : (e : Expected) (s : Stop) (code : ℕ) → Told s code → IsRefusal code → ((IsLate s → ⊥) → Decides e s) → code ≡ e.status
refusal_status e s code told refusal decides = go s told (decides (early_stop s code told low))
  where
    low : code ≤ 5
    low = elim refusal [
      | inl is ↦ omega (arith, is)
      | inr (inl is) ↦ omega (arith, is)
      | inr (inr is) ↦ omega (arith, is)
    ]

    no : (code ≡ 2) ⊎ (5 ≤ code) → ⊥
    no other = apart refusal other
      where
        apart : IsRefusal code → (code ≡ 2) ⊎ (5 ≤ code) → ⊥
        apart (inl is) (inl two) = omega (arith, is, two)
        apart (inl is) (inr five) = omega (arith, is, five)
        apart (inr (inl is)) (inl two) = omega (arith, is, two)
        apart (inr (inl is)) (inr five) = omega (arith, is, five)
        apart (inr (inr is)) (inl two) = omega (arith, is, two)
        apart (inr (inr is)) (inr five) = omega (arith, is, five)

    go : (s : Stop) → Told s code → Decides e s → code ≡ e.status
    go Usage (inl is) d = absurd (no (inl is))
    go Long (inl is) d = is ∙ sym (ap (λ (z : Expected). z.status) d)
    go (BadLine line) (inl is) d = is ∙ sym (ap (λ (z : Expected). z.status) d)
    go (NotBuilt line) (inl is) d = is ∙ sym (ap (λ (z : Expected). z.status) d)
    go Source (inl is) d = absurd (no (inr (omega (arith, is))))
    go Sink (inl is) d = absurd (no (inr (omega (arith, is))))
    go Disk (inl is) d = absurd (no (inr (omega (arith, is))))
    go (BadImage bad) (inl is) d = absurd (no (inr (omega (arith, is))))
    go NoMemory (inl is) d = absurd (no (inr (omega (arith, is))))
    go s (inr nine) d = let is = nine.0 in absurd (no (inr (omega (arith, is))))

pub not_refused : IsRefusal 0 → ⊥
not_refused (inl is) = omega (arith, is)
not_refused (inr (inl is)) = omega (arith, is)
not_refused (inr (inr is)) = omega (arith, is)

-- an image that was made, or not
pub ends_made : (blocks inodes code number : ℕ) → IsMadeStatus code → number ≡ 0 → EndsWith (fresh blocks inodes) 0 code number
ends_made blocks inodes code number status none = record {
  status = elim status [
    | inl zero ↦ inl zero
    | inr (inl six) ↦ inr (inr (inl six))
    | inr (inr (inl seven)) ↦ inr (inr (inr (inl seven)))
    | inr (inr (inr nine)) ↦ inr (inr (inr (inr nine)))
  ];
  batches = λ _. none;
  few = omega arith;
  all = λ _. refl;
  sink = λ _. refl;
}

-- ---- what was written

said_for : (f g : Type 0) (line said : List ℕ) → (f → g) → IsSaid f line said → IsSaid g line said
said_for f g line said map (inl is) = inl is
said_for f g line said map (inr is) = inr (map is.0, is.1)

as_expected : (e : Expected) (failed : Type 0) (lines code : ℕ) (w said line : List ℕ) → code ≡ e.status → (code ≡ 0 → ⊥) → lines ≡ length e.replies → w ≡ joined e.replies → e.last ≡ line → IsSaid failed line said
    → Ends e failed lines code (w ++ said)
as_expected e failed lines code w said line status not_done all before last whole = inl (record {
  status = status;
  all = all;
  said = said;
  text = ap (λ (z : List ℕ). z ++ said) before;
  line = subst (λ (z : List ℕ). IsSaid failed z said) (sym last) whole;
  whole = λ zero. absurd (not_done zero);
})

-- where there are no reply lines
as_alone : (e : Expected) (failed : Type 0) (lines code status : ℕ) (w said line : List ℕ) → e ≡ alone status line → code ≡ status → (code ≡ 0 → ⊥) → lines ≤ length e.replies → w ≡ [] → IsSaid failed line said
    → Ends e failed lines code (w ++ said)
as_alone e failed lines code status w said line is told not_done few before whole =
    let none = ap (λ (z : Expected). length z.replies) is in
    as_expected e failed lines code w said line (told ∙ sym (ap (λ (z : Expected). z.status) is)) not_done (omega (arith, none, few)) (before ∙ sym (ap (λ (z : Expected). joined z.replies) is))
    (ap (λ (z : Expected). z.last) is) whole

by_fault : (e : Expected) (failed : Type 0) (lines code : ℕ) (w said line : List ℕ) → w ≡ joined (take lines e.replies) → HasLine code line → IsSaid failed line said → (code ≡ 5 → lines ≡ 0)
    → Ends e failed lines code (w ++ said)
by_fault e failed lines code w said line before has whole first = inr (inr (record {
  line = line;
  fault = has;
  said = said;
  text = ap (λ (z : List ℕ). z ++ said) before;
  whole = whole;
  script_first = first;
}))

none_taken : (e : Expected) (lines : ℕ) (w : List ℕ) → lines ≡ 0 → w ≡ [] → w ≡ joined (take lines e.replies)
none_taken e lines w none before = before ∙ ap (λ (n : ℕ). joined (take n e.replies)) (sym none)

none_said : (f : Type 0) (said : List ℕ) → IsSaid f [] said → said ≡ []
none_said f said (inl is) = is
none_said f said (inr is) =
    let long = ap (λ (z : List ℕ). length z) is.1.1 in
    let both = length-append said is.1.0 in
    nil_from_length said (omega (arith, long, both))

pub ends_stop : (e : Expected) (s : Stop) (lines code : ℕ) (f g : Type 0) (w said : List ℕ) → Decides e s → Until e s lines w → lines ≤ length e.replies → (f → g) → (s ≡ Sink → g) → SaidOf f s code said
    → Ends e g lines code (w ++ said)
ends_stop e Usage lines code f g w said d u few map rose (inl is) =
    let status = is.0 in
    as_alone e g lines code 2 w said usage_line d is.0 (λ zero. omega (arith, zero, status)) few u (said_for f g usage_line said map is.1)
ends_stop e Long lines code f g w said d u few map rose (inl is) =
    let status = is.0 in
    as_alone e g lines code 4 w said too_long_line d is.0 (λ zero. omega (arith, zero, status)) few u (said_for f g too_long_line said map is.1)
ends_stop e (BadLine line) lines code f g w said d u few map rose (inl is) =
    let status = is.0 in
    as_alone e g lines code 3 w said (bad_line_line line) d is.0 (λ zero. omega (arith, zero, status)) few u (said_for f g (bad_line_line line) said map is.1)
ends_stop e (BadLine line) lines code f g w said d u few map rose (inr is) =
    let status = is.0 in
    let none = ap (λ (z : Expected). length z.replies) d in
    by_fault e g lines code w said memory_fault_line (none_taken e lines w (omega (arith, none, few)) u) (inr (inr (is.0, refl))) (said_for f g memory_fault_line said map is.2) (λ five. omega (arith, five, status))
ends_stop e (NotBuilt line) lines code f g w said d u few map rose (inl is) =
    let status = is.0 in
    as_alone e g lines code 1 w said (not_built_line line) d is.0 (λ zero. omega (arith, zero, status)) few u (said_for f g (not_built_line line) said map is.1)
ends_stop e (NotBuilt line) lines code f g w said d u few map rose (inr is) =
    let status = is.0 in
    let none = ap (λ (z : Expected). length z.replies) d in
    by_fault e g lines code w said memory_fault_line (none_taken e lines w (omega (arith, none, few)) u) (inr (inr (is.0, refl))) (said_for f g memory_fault_line said map is.2) (λ five. omega (arith, five, status))
ends_stop e Source lines code f g w said d u few map rose (inl is) =
    by_fault e g lines code w said (stop_line Source) (none_taken e lines w u.0 u.1) (inl (is.0, refl)) (said_for f g (stop_line Source) said map is.1) (λ _. u.0)
ends_stop e Sink lines code f g w said d u few map rose (inl is) =
    inr (inl (record {
      status = is.0;
      failed = rose refl;
      said = u.said;
      text = ap (λ (z : List ℕ). w ++ z) (none_said f said is.1) ∙ append-nil w ∙ u.text;
      part = u.part;
    }))
ends_stop e Disk lines code f g w said d u few map rose (inl is) =
    let status = is.0 in
    by_fault e g lines code w said (stop_line Disk) u (inr (inl (is.0, refl))) (said_for f g (stop_line Disk) said map is.1) (λ five. omega (arith, five, status))
ends_stop e (BadImage bad) lines code f g w said d u few map rose (inl is) =
    let status = is.0 in
    let line = bad_image_line (kind_name bad.kind) bad.block in
    as_alone e g lines code 8 w said line d is.0 (λ zero. omega (arith, zero, status)) few u (said_for f g line said map is.1)
ends_stop e (BadImage bad) lines code f g w said d u few map rose (inr is) =
    let status = is.0 in
    let none = ap (λ (z : Expected). length z.replies) d in
    by_fault e g lines code w said memory_fault_line (none_taken e lines w (omega (arith, none, few)) u) (inr (inr (is.0, refl))) (said_for f g memory_fault_line said map is.2) (λ five. omega (arith, five, status))
ends_stop e NoMemory lines code f g w said d u few map rose (inl is) =
    let status = is.0 in
    by_fault e g lines code w said (stop_line NoMemory) u (inr (inr (is.0, refl))) (said_for f g (stop_line NoMemory) said map is.1) (λ five. omega (arith, five, status))
ends_stop e Usage lines code f g w said d u few map rose (inr is) = absurd is.1
ends_stop e Long lines code f g w said d u few map rose (inr is) = absurd is.1
ends_stop e Source lines code f g w said d u few map rose (inr is) = absurd is.1
ends_stop e Sink lines code f g w said d u few map rose (inr is) = absurd is.1
ends_stop e Disk lines code f g w said d u few map rose (inr is) = absurd is.1
ends_stop e NoMemory lines code f g w said d u few map rose (inr is) = absurd is.1

-- the whole text, where the stop was said behind what was written until then
pub wrote_stop : (e : Expected) (s : Stop) (lines code : ℕ) (f g : Type 0) (old mid new : List ℕ) → Decides e s → Grew e s lines old mid → lines ≤ length e.replies → (f → g) → (s ≡ Sink → g)
    → ((said : List ℕ) × (new ≡ mid ++ said) × SaidOf f s code said) → Wrote e g lines code old new
wrote_stop e s lines code f g old mid new d grew few map rose said = (
  grew.0 ++ said.0,
  said.1 ∙ ap (λ (z : List ℕ). z ++ said.0) grew.1 ∙ append_assoc old grew.0 said.0,
  ends_stop e s lines code f g grew.0 said.0 d grew.2 few map rose said.2,
)

pub wrote_done : (e : Expected) (g : Type 0) (old new : List ℕ) → e.status ≡ 0 → new ≡ old ++ (joined e.replies ++ e.last) → Wrote e g (length e.replies) 0 old new
wrote_done e g old new zero text = (
  joined e.replies ++ e.last,
  text,
  inl (record { status = sym zero; all = refl; said = e.last; text = refl; line = inl refl; whole = λ _. refl }),
)
