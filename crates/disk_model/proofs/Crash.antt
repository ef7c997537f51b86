-- What a crash leaves in a call of a disk in memory.
use Rattle.std.proofs.Common.{◌≡◌, ◌⊎◌, inl, inr, ⊎_elim, ℕ, ◌<◌, List, ◌∷◌, length, sym, ap, subst, refl, arith}
use Rattle.std.proofs.Common.{Vec, Global}
use Rattle.std.proofs.Common.{◌∙◌}
use Rattle.disk_model.specs.Bytes.{Torn, Resized}
use Rattle.disk_model.specs.Moments.{Elapses, Follows, Reaches, Only}
use Rattle.disk_model.specs.History.{Images, LeftSince}
use Rattle.disk_model.specs.HistoryView.{past_of, images_of, clock_of, left_of, Goes, Stays}
use Rattle.disk_model.specs.Past.{LeftSince-only, Torn-same, Resized-same, Images-contents}
use Rattle.disk_model.proofs.Elapsed.{elapses_not, elapses_by}
use Rattle.disk_model.specs.declared.operation.Operation.{Operation}
use Rattle.disk_model.specs.declared.operation.Operation.TheVariants.{Write, Resize, Sync}
use Rattle.disk_model.specs.declared.history.History.{History}

abbrev Past : Type 0
Past = List Operation

pub stays_same : (history : History) → Stays history history
stays_same history = record { start = refl; bytes = refl; past = refl }

-- a fact of a record's start and operations, carried over
pub stays_keeps : (P : List ℕ → Past → Type 0) (old new : History) → Stays old new → P old.start.items (past_of old) → P new.start.items (past_of new)
stays_keeps P old new stays fact =
    subst (λ (past : Past). P new.start.items past) (sym stays.past) (subst (λ (start : List ℕ). P start (past_of old)) (sym stays.start) fact)

pub stays_backs : (P : List ℕ → Past → Type 0) (old new : History) → Stays old new → P new.start.items (past_of new) → P old.start.items (past_of old)
stays_backs P old new stays fact =
    subst (λ (past : Past). P old.start.items past) stays.past (subst (λ (start : List ℕ). P start (past_of new)) stays.start fact)

pub goes_keeps : (P : List ℕ → Past → Type 0) (operation : Operation) (old new : History) → Goes operation old new → P old.start.items (operation ∷ past_of old) → P new.start.items (past_of new)
goes_keeps P operation old new goes fact =
    subst (λ (past : Past). P new.start.items past) (sym goes.past) (subst (λ (start : List ℕ). P start (operation ∷ past_of old)) (sym goes.start) fact)

pub stays_time : (old new : History) → Stays old new → Elapses (clock_of old) (clock_of new) (left_of old) (left_of new)
stays_time old new stays =
    stays_keeps (λ start past. Elapses (clock_of old) (length past) (left_of old) (LeftSince start past)) old new stays (elapses_not old.start.items (past_of old))

pub stays_crash : (old new : History) → Stays old new → (c : List ℕ) → left_of new (clock_of old) c → images_of old c
stays_crash old new stays c left =
    LeftSince-only old.start.items (past_of old) c (stays_backs (λ start past. LeftSince start past (clock_of old) c) old new stays left)

pub goes_time : (operation : Operation) (old new : History) → Goes operation old new → Elapses (clock_of old) (clock_of new) (left_of old) (left_of new)
goes_time operation old new goes =
    goes_keeps (λ start past. Elapses (clock_of old) (length past) (left_of old) (LeftSince start past)) operation old new goes (elapses_by old.start.items (past_of old) operation)

pub goes_ticks : (operation : Operation) (old new : History) → Goes operation old new → clock_of old < clock_of new
goes_ticks operation old new goes = let e : clock_of new ≡ length (operation ∷ past_of old) = ap length goes.past in omega (arith, e)

-- in a call that is remembered: what it leaves now, or what stood before
goes_crash : (operation : Operation) (old new : History) → Goes operation old new → (c : List ℕ) → left_of new (clock_of old) c
    → Images old.start.items (operation ∷ past_of old) c ⊎ images_of old c
goes_crash operation old new goes c left =
    let at_old : LeftSince old.start.items (operation ∷ past_of old) (clock_of old) c =
    goes_keeps (λ start past. LeftSince start past (clock_of old) c → LeftSince old.start.items (operation ∷ past_of old) (clock_of old) c) operation old new goes (λ left. left) left in
    ⊎_elim (λ now. inl now) (λ before. inr (LeftSince-only old.start.items (past_of old) c before.1)) at_old

pub resize_crash : (size : ℕ) (old new : History) → Goes (Resize size) old new → Follows (Resized size) (images_of old) (left_of new (clock_of old))
resize_crash size old new goes c left =
    ⊎_elim (λ now. now) (λ before. (c, before, Resized-same size c)) (goes_crash (Resize size) old new goes c left)

pub resize_reaches : (size : ℕ) (old new : History) → Goes (Resize size) old new → Reaches (Resized size) (images_of old) (images_of new)
resize_reaches size old new goes d c from step = goes_keeps (λ start past. Images start past c) (Resize size) old new goes (d, from, step)

pub sync_crash : (old new : History) → Goes Sync old new → (c : List ℕ) → left_of new (clock_of old) c → images_of old c
sync_crash old new goes c left =
    let s = old.start.items in let p = past_of old in
    ⊎_elim (λ now. subst (Images s p) (sym now) (Images-contents s p old.inside)) (λ before. before) (goes_crash Sync old new goes c left)

pub sync_durable : (old new : History) → Goes Sync old new → new.bytes.items ≡ old.bytes.items → Only new.bytes.items (images_of new)
sync_durable old new goes same =
    goes_keeps (λ start past. Only new.bytes.items (Images start past)) Sync old new goes (λ c now. subst (λ (l : List ℕ). c ≡ l) (sym old.kept) now ∙ sym same)

-- a write that is remembered, by the bytes that it was given
abbrev pub Writes : ℕ → List ℕ → History → History → Type 0
Writes offset bytes old new = (copy : Vec ℕ Global) × (copy.items ≡ bytes) × Goes (Write offset copy) old new

pub write_time : (offset : ℕ) (bytes : List ℕ) (old new : History) → Writes offset bytes old new → Elapses (clock_of old) (clock_of new) (left_of old) (left_of new)
write_time offset bytes old new writes = goes_time (Write offset writes.0) old new writes.2

pub write_ticks : (offset : ℕ) (bytes : List ℕ) (old new : History) → Writes offset bytes old new → clock_of old < clock_of new
write_ticks offset bytes old new writes = goes_ticks (Write offset writes.0) old new writes.2

pub write_crash : (offset : ℕ) (bytes : List ℕ) (old new : History) → Writes offset bytes old new → Follows (Torn offset (length bytes)) (images_of old) (left_of new (clock_of old))
write_crash offset bytes old new writes c left =
    let copy = writes.0 in
    subst (λ (l : List ℕ). (d : List ℕ) × images_of old d × Torn offset (length l) d c) writes.1
    (⊎_elim (λ now. now) (λ before. (c, before, Torn-same offset (length copy.items) c)) (goes_crash (Write offset copy) old new writes.2 c left))

pub write_reaches : (offset : ℕ) (bytes : List ℕ) (old new : History) → Writes offset bytes old new → Reaches (Torn offset (length bytes)) (images_of old) (images_of new)
write_reaches offset bytes old new writes d c from step =
    let copy = writes.0 in
    goes_keeps (λ start past. Images start past c) (Write offset copy) old new writes.2
    (d, from, subst (λ (l : List ℕ). Torn offset (length l) d c) (sym writes.1) step)
