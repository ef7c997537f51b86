-- What the operations, gone through from the oldest on, give at the end.
use Rattle.std.proofs.Common.{◌≡◌, ℕ, ◌+◌, ◌≤◌, ◌<◌, Bool, true, false, ◌||◌, nat_lt, if◌then◌else◌, IsTrue, List, [], ◌∷◌, ◌++◌, reverse, length, get_or, take, drop, refl, sym, ◌∙◌, ap, subst, arith}
use Rattle.std.proofs.lemmas.Bool.Decides.{nat_tests}
use Rattle.std.proofs.lemmas.List.{take_more, reverse-append, take_all, take-append-drop, length-reverse, length-take-le}
use Rattle.disk_model.specs.Bytes.{resized}
use Rattle.disk_model.specs.History.{contents, all_inside}
use Rattle.disk_model.specs.Past.{length-patched, length-resized, inside_now}
use Rattle.disk_model.specs.Pick.{stable_of, covers_place, is_loose}
use Rattle.disk_model.specs.Replay.{synced_of, stepped, replayed, marked, IsWithin}
use Rattle.disk_model.specs.declared.operation.Operation.{Operation}
use Rattle.disk_model.specs.declared.operation.Operation.TheVariants.{Write, Resize, Sync}

lt_true : (m n : ℕ) → m < n → nat_lt m n ≡ true
lt_true m n lt = grind (arith, nat_tests)

lt_false : (m n : ℕ) → n ≤ m → nat_lt m n ≡ false
lt_false m n le = grind (arith, nat_tests)

pub synced_within : (past : List Operation) → synced_of past ≤ length past
synced_within [] = omega arith
synced_within (Write offset bytes ∷ past) = omega (arith, synced_within past)
synced_within (Resize size ∷ past) = omega (arith, synced_within past)
synced_within (Sync ∷ past) = omega arith

stepped_contents : (operation : Operation) (start : List ℕ) (past : List Operation) → stepped true operation (contents start past) ≡ contents start (operation ∷ past)
stepped_contents (Write offset bytes) start past = refl
stepped_contents (Resize size) start past = refl
stepped_contents Sync start past = refl

-- with all writes counted
replayed_whole : (synced : ℕ) (start : List ℕ) (past : List Operation) → length past ≤ synced → replayed synced start past ≡ contents start past
replayed_whole synced start [] le = refl
replayed_whole synced start (operation ∷ past) le =
    let before : replayed synced start past ≡ contents start past = replayed_whole synced start past (omega (arith, le)) in
    ap (λ (b : Bool). stepped b operation (replayed synced start past)) (lt_true (length past) synced (omega (arith, le)))
    ∙ ap (stepped true operation) before ∙ stepped_contents operation start past

pub replayed_stable : (start : List ℕ) (past : List Operation) → replayed (synced_of past) start past ≡ stable_of start past
replayed_stable start [] = refl
replayed_stable start (Write offset bytes ∷ past) =
    let old = replayed (synced_of past) start past in
    ap (λ (b : Bool). stepped b (Write offset bytes) old) (lt_false (length past) (synced_of past) (synced_within past)) ∙ replayed_stable start past
replayed_stable start (Resize size ∷ past) =
    let old = replayed (synced_of past) start past in
    ap (λ (b : Bool). stepped b (Resize size) old) (lt_false (length past) (synced_of past) (synced_within past)) ∙ ap (λ (l : List ℕ). resized l size) (replayed_stable start past)
replayed_stable start (Sync ∷ past) =
    let old = replayed (length past + 1) start past in
    ap (λ (b : Bool). stepped b Sync old) (lt_true (length past) (length past + 1) (omega arith)) ∙ replayed_whole (length past + 1) start past (omega arith)

-- a write keeps the length, counted or not
length-stepped : (synced : Bool) (operation : Operation) (old now : List ℕ) → length old ≡ length now → IsWithin operation (length now) → length (stepped synced operation old) ≡ length (stepped true operation now)
length-stepped true (Write offset bytes) old now same within = length-patched old offset bytes.items (omega (arith, within, same)) ∙ same ∙ sym (length-patched now offset bytes.items within)
length-stepped false (Write offset bytes) old now same within = same ∙ sym (length-patched now offset bytes.items within)
length-stepped true (Resize size) old now same within = length-resized old size ∙ sym (length-resized now size)
length-stepped false (Resize size) old now same within = length-resized old size ∙ sym (length-resized now size)
length-stepped true Sync old now same within = same
length-stepped false Sync old now same within = same

pub within_now : (operation : Operation) (start : List ℕ) (past : List Operation) → IsTrue (all_inside start (operation ∷ past)) → IsWithin operation (length (contents start past))
within_now (Write offset bytes) start past inside = (inside_now _ _ _ inside).0
within_now (Resize size) start past inside = tt
within_now Sync start past inside = tt

pub inside_before : (operation : Operation) (start : List ℕ) (past : List Operation) → IsTrue (all_inside start (operation ∷ past)) → IsTrue (all_inside start past)
inside_before (Write offset bytes) start past inside = (inside_now _ _ _ inside).1
inside_before (Resize size) start past inside = inside
inside_before Sync start past inside = inside

pub length-replayed : (synced : ℕ) (start : List ℕ) (past : List Operation) → IsTrue (all_inside start past) → length (replayed synced start past) ≡ length (contents start past)
length-replayed synced start [] inside = refl
length-replayed synced start (operation ∷ past) inside =
    length-stepped (nat_lt (length past) synced) operation (replayed synced start past) (contents start past) (length-replayed synced start past (inside_before operation start past inside)) (within_now operation start past inside)
    ∙ ap length (stepped_contents operation start past)

-- all of the later operations taken away
inside_earlier : (start : List ℕ) (later past : List Operation) → IsTrue (all_inside start (later ++ past)) → IsTrue (all_inside start past)
inside_earlier start [] past inside = inside
inside_earlier start (operation ∷ later) past inside = inside_earlier start later past (inside_before operation start (later ++ past) inside)

-- with no synced operation left every write marks its places
marked_none : (synced : ℕ) (past : List Operation) (place : ℕ) → length past ≤ synced → marked synced past place ≡ false
marked_none synced [] place le = refl
marked_none synced (operation ∷ past) place le =
    ap (λ (b : Bool). (if b then false else covers_place operation place) || marked synced past place) (lt_true (length past) synced (omega (arith, le)))
    ∙ marked_none synced past place (omega (arith, le))

pub marked_loose : (past : List Operation) (place : ℕ) → marked (synced_of past) past place ≡ is_loose past place
marked_loose [] place = refl
marked_loose (Write offset bytes ∷ past) place =
    ap (λ (b : Bool). (if b then false else covers_place (Write offset bytes) place) || marked (synced_of past) past place) (lt_false (length past) (synced_of past) (synced_within past))
    ∙ ap (λ (b : Bool). covers_place (Write offset bytes) place || b) (marked_loose past place)
marked_loose (Resize size ∷ past) place =
    ap (λ (b : Bool). (if b then false else false) || marked (synced_of past) past place) (lt_false (length past) (synced_of past) (synced_within past))
    ∙ marked_loose past place
marked_loose (Sync ∷ past) place =
    ap (λ (b : Bool). (if b then false else false) || marked (length past + 1) past place) (lt_true (length past) (length past + 1) (omega arith))
    ∙ marked_none (length past + 1) past place (omega arith)

-- the operations before a place of the record, and with the one there
pub past_more : (operations : List Operation) (i : ℕ) (d : Operation) → i < length operations → reverse (take (i + 1) operations) ≡ get_or operations i d ∷ reverse (take i operations)
past_more operations i d lt = ap reverse (take_more operations i d lt) ∙ reverse-append (take i operations) (get_or operations i d ∷ [])

pub length-past : (operations : List Operation) (i : ℕ) → i ≤ length operations → length (reverse (take i operations)) ≡ i
length-past operations i le = length-reverse (take i operations) ∙ length-take-le i operations le

pub past_all : (operations : List Operation) (i : ℕ) → length operations ≤ i → reverse (take i operations) ≡ reverse operations
past_all operations i le = ap reverse (take_all i operations le)

pub inside_at : (start : List ℕ) (operations : List Operation) (i : ℕ) → IsTrue (all_inside start (reverse operations)) → IsTrue (all_inside start (reverse (take i operations)))
inside_at start operations i inside =
    let whole : reverse operations ≡ reverse (drop i operations) ++ reverse (take i operations) = ap reverse (sym (take-append-drop i operations)) ∙ reverse-append (take i operations) (drop i operations) in
    inside_earlier start (reverse (drop i operations)) (reverse (take i operations)) (subst (λ (l : List Operation). IsTrue (all_inside start l)) whole inside)

-- the operation at a place of the record lies inside the bytes of its time
pub within_at : (synced : ℕ) (start : List ℕ) (operations : List Operation) (i : ℕ) (operation : Operation) → IsTrue (all_inside start (reverse operations)) → i < length operations → operation ≡ get_or operations i operation → IsWithin operation (length (replayed synced start (reverse (take i operations))))
within_at synced start operations i operation inside lt is =
    let past = reverse (take i operations) in
    let here : IsTrue (all_inside start (get_or operations i operation ∷ past)) = subst (λ (l : List Operation). IsTrue (all_inside start l)) (past_more operations i operation lt) (inside_at start operations (i + 1) inside) in
    let same : IsTrue (all_inside start (operation ∷ past)) = subst (λ (o : Operation). IsTrue (all_inside start (o ∷ past))) (sym is) here in
    subst (IsWithin operation) (sym (length-replayed synced start past (inside_before operation start past same))) (within_now operation start past same)

-- after the last operation the bytes are the stable ones
pub stable_at_end : (synced : ℕ) (start : List ℕ) (operations : List Operation) (i : ℕ) → synced ≡ synced_of (reverse operations) → length operations ≤ i → replayed synced start (reverse (take i operations)) ≡ stable_of start (reverse operations)
stable_at_end synced start operations i is le =
    ap (λ (l : List Operation). replayed synced start l) (past_all operations i le)
    ∙ ap (λ (k : ℕ). replayed k start (reverse operations)) is ∙ replayed_stable start (reverse operations)

pub loose_at_end : (synced : ℕ) (operations : List Operation) (i place : ℕ) → synced ≡ synced_of (reverse operations) → length operations ≤ i → marked synced (reverse (take i operations)) place ≡ is_loose (reverse operations) place
loose_at_end synced operations i place is le =
    ap (λ (l : List Operation). marked synced l place) (past_all operations i le)
    ∙ ap (λ (k : ℕ). marked k (reverse operations) place) is ∙ marked_loose (reverse operations) place
