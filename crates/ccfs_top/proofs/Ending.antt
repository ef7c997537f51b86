-- How far a run came, and what it has written then.
use Rattle.std.proofs.Common.{◌≡◌, ◌⊎◌, inl, inr, ℕ, ◌+◌, ◌^◌, ◌≤◌, ◌<◌, List, [], ◌∷◌, ◌++◌, length, take, drop, refl, sym, ap, ◌∙◌, subst, arith, append_assoc}
use Rattle.std.proofs.lemmas.List.{take_at, drop_at, map-append, length-append, length-map, length-drop, length-take-le, take-append-drop}
use Rattle.ccfs_base.specs.declared.commands.Command.{Command}
use Rattle.tree_model.specs.declared.rows.Entry.{Entry}
use Rattle.tree_model.specs.Rows.{Rows}
use Rattle.tree_cuts.specs.Calls.{Sizes}
use Rattle.history_model.specs.State.{Now}
use Rattle.history_model.specs.Histories.{start, entered_by, entry_of, hist, now_after}
use Rattle.script_text.specs.declared.scripts.Call.{Call}
use Rattle.ccfs_top.specs.declared.stop.Stop.{Stop}
use Rattle.ccfs_top.specs.declared.stop.Stop.TheVariants.{Usage, Long, BadLine, NotBuilt, Source, Sink, Disk, BadImage, NoMemory}
use Rattle.recovery.specs.declared.fault.OpenFault.{OpenFault}
use Rattle.recovery.specs.declared.fault.OpenFault.TheVariants as open_fault
use Rattle.ccfs_top.specs.Stages.{called}
use Rattle.ccfs_top.specs.Runs.{Expected, asked, history, line_of, reply_lines, further}
use Rattle.ccfs_top.specs.Ends.{joined, first_or, IsPart}
use Rattle.ccfs_top.specs.Stops.{Decides, SomeLines, Grew, IsFaultStop, IsLate, of_open}
use Rattle.ccfs_top.specs.Reached.{history_to, Reached}
use Rattle.ccfs_top.proofs.Steps.{lines_more, lines_first}

-- ---- the number

pub further_none : (k : ℕ) → k < 2 ^ 64 → k ≡ further k 0
further_none k small = omega arith

-- ---- what was written

pub text_on : (k : Sizes) (t : Rows) (calls : List Call) (i : ℕ) (c : Call) (h : List Entry) (text0 text text1 : List ℕ)
    → text ≡ text0 ++ joined (reply_lines h) → text1 ≡ text ++ line_of (entry_of k (now_after k (start t) h) c.actor c.command)
    → text1 ≡ text0 ++ joined (reply_lines (called k t h c.actor c.command))
text_on k t calls i c h text0 text text1 so_far more =
    let e = entry_of k (now_after k (start t) h) c.actor c.command in
    more ∙ ap (λ (z : List ℕ). z ++ line_of e) so_far ∙ append_assoc text0 (joined (reply_lines h)) (line_of e)
    ∙ ap (λ (z : List ℕ). text0 ++ z) (sym (lines_more h e))

-- each call has its entry
length_hist : (k : Sizes) (n : Now) (cs : List (ℕ × Command)) → length (hist k n cs) ≡ length cs
length_hist k n [] = refl
length_hist k n (c ∷ cs) =
    let rest = length_hist k (entered_by k n (entry_of k n c.0 c.1)) cs in omega (arith, rest)

pub length_lines : (k : Sizes) (n : Now) (cs : List Call) → length (reply_lines (history k n cs)) ≡ length cs
length_lines k n cs =
    length-map (history k n cs) line_of ∙ length_hist k n (asked cs) ∙ length-map cs (λ (z : Call). (z.actor, z.command))

-- so many lines as calls
pub lines_to : (k : Sizes) (t : Rows) (calls : List Call) (i : ℕ) → i ≤ length calls → length (reply_lines (history_to k (start t) calls i)) ≡ i
lines_to k t calls i le = length_lines k (start t) (take i calls) ∙ length-take-le i calls le

-- the reply lines so far are the first of all
pub first_lines : (k : Sizes) (t : Rows) (calls : List Call) (i : ℕ) (h : List Entry) (d : ℕ) → i ≤ length calls → Reached k t calls i h d
    → (i ≤ length (reply_lines (history k (start t) calls))) × (take i (reply_lines (history k (start t) calls)) ≡ reply_lines h)
first_lines k t calls i h d le r =
    let a = reply_lines (history_to k (start t) calls i) in
    let f = lines_first k t calls i in
    let long = ap (λ (z : List (List ℕ)). length z) f.1 in
    let both = length-append a f.0 in
    let count = lines_to k t calls i le in (
      omega (arith, long, both, count),
      ap (take i) f.1 ∙ take_at a f.0 i count ∙ ap reply_lines (sym r.entries),
    )

-- and the next one is behind them
pub line_next : (k : Sizes) (t : Rows) (calls : List Call) (i : ℕ) (c : Call) (h : List Entry) (d : ℕ) (last : List ℕ) → i < length calls
    → h ≡ history_to k (start t) calls i → Reached k t calls (i + 1) (called k t h c.actor c.command) d
    → first_or last (drop i (reply_lines (history k (start t) calls))) ≡ line_of (entry_of k (now_after k (start t) h) c.actor c.command)
line_next k t calls i c h d last lt here r =
    let e = entry_of k (now_after k (start t) h) c.actor c.command in
    let f = lines_first k t calls (i + 1) in
    let split : reply_lines (history_to k (start t) calls (i + 1)) ≡ reply_lines h ++ line_of e ∷ [] = ap reply_lines (sym r.entries) ∙ map-append line_of h (e ∷ []) in
    let all : reply_lines (history k (start t) calls) ≡ reply_lines h ++ (line_of e ∷ f.0) =
    f.1 ∙ ap (λ (z : List (List ℕ)). z ++ f.0) split ∙ append_assoc (reply_lines h) (line_of e ∷ []) f.0 in
    ap (λ (z : List (List ℕ)). first_or last (drop i z)) all
    ∙ ap (first_or last) (drop_at (reply_lines h) (line_of e ∷ f.0) i (ap (λ (z : List Entry). length (reply_lines z)) here ∙ lines_to k t calls i (omega arith)))

-- a part of a line
pub part_of_line : (old new line text : List ℕ) → ((k : ℕ) × (k < length text) × (new ≡ old ++ take k text)) → text ≡ line → (said : List ℕ) × (new ≡ old ++ said) × IsPart said line
part_of_line old new line text part is =
    let long = length-drop part.0 text in
    let within = part.1 in
    (take part.0 text, part.2, (drop part.0 text, sym is ∙ sym (take-append-drop part.0 text), omega (arith, long, within)))

-- ---- what is to come

-- a call that wasn't performed is stopped by a fault, and so is a reply that wasn't written
pub step_fault : (stop : Stop) → (stop ≡ Disk) ⊎ (stop ≡ NoMemory) → IsFaultStop stop
step_fault stop (inl is) = subst IsFaultStop (sym is) tt
step_fault stop (inr is) = subst IsFaultStop (sym is) tt

pub write_fault : (stop : Stop) → (stop ≡ Sink) ⊎ (stop ≡ NoMemory) → IsFaultStop stop
write_fault stop (inl is) = subst IsFaultStop (sym is) tt
write_fault stop (inr is) = subst IsFaultStop (sym is) tt

pub no_sink : (stop : Stop) → (stop ≡ Disk) ⊎ (stop ≡ NoMemory) → stop ≡ Sink → ⊥
no_sink stop (inl is) sink = cc (is, sink)
no_sink stop (inr is) sink = cc (is, sink)

pub no_disk : (stop : Stop) → (stop ≡ Sink) ⊎ (stop ≡ NoMemory) → stop ≡ Disk → ⊥
no_disk stop (inl is) disk = cc (is, disk)
no_disk stop (inr is) disk = cc (is, disk)

-- a fault is late, and so is the stop of an image that isn't opened
pub fault_late : (stop : Stop) → IsFaultStop stop → IsLate stop
fault_late Usage is = absurd is
fault_late Long is = absurd is
fault_late (BadLine line) is = absurd is
fault_late (NotBuilt line) is = absurd is
fault_late Source is = absurd is
fault_late Sink is = tt
fault_late Disk is = tt
fault_late (BadImage bad) is = absurd is
fault_late NoMemory is = tt

pub open_late : (stop : Stop) (fault : OpenFault) → stop ≡ of_open fault → IsLate stop
open_late stop fault is = subst IsLate (sym is) (late fault)
  where
    late : (f : OpenFault) → IsLate (of_open f)
    late open_fault.Device = tt
    late (open_fault.Bad bad) = tt
    late open_fault.NoMemory = tt

-- nothing decides a fault
pub fault_decides : (e : Expected) (stop : Stop) → e.status ≡ 0 → IsFaultStop stop → Decides e stop
fault_decides e Usage zero is = absurd is
fault_decides e Long zero is = absurd is
fault_decides e (BadLine line) zero is = absurd is
fault_decides e (NotBuilt line) zero is = absurd is
fault_decides e Source zero is = absurd is
fault_decides e Sink zero is = zero
fault_decides e Disk zero is = tt
fault_decides e (BadImage bad) zero is = absurd is
fault_decides e NoMemory zero is = tt

-- ---- what was written until a stop

some_grew : (e : Expected) (lines : List (List ℕ)) (i : ℕ) (text0 text1 : List ℕ) → take i e.replies ≡ lines → text1 ≡ text0 ++ joined lines
    → (written : List ℕ) × (text1 ≡ text0 ++ written) × SomeLines e i written
some_grew e lines i text0 text1 first is = (joined lines, is, ap joined (sym first))

-- where a call wasn't performed
pub step_grew : (e : Expected) (stop : Stop) (lines : List (List ℕ)) (i : ℕ) (text0 text1 : List ℕ) → (stop ≡ Disk) ⊎ (stop ≡ NoMemory)
    → take i e.replies ≡ lines → text1 ≡ text0 ++ joined lines → Grew e stop i text0 text1
step_grew e stop lines i text0 text1 (inl is) first text = subst (λ (z : Stop). Grew e z i text0 text1) (sym is) (some_grew e lines i text0 text1 first text)
step_grew e stop lines i text0 text1 (inr is) first text = subst (λ (z : Stop). Grew e z i text0 text1) (sym is) (some_grew e lines i text0 text1 first text)

-- where a reply wasn't written whole
pub write_grew : (e : Expected) (stop : Stop) (lines : List (List ℕ)) (i : ℕ) (line text0 text text1 : List ℕ) → (stop ≡ Sink) ⊎ (stop ≡ NoMemory)
    → take i e.replies ≡ lines → first_or e.last (drop i e.replies) ≡ line → text ≡ text0 ++ joined lines
    → (stop ≡ NoMemory → text1 ≡ text) → (stop ≡ Sink → (said : List ℕ) × (text1 ≡ text ++ said) × IsPart said line) → Grew e stop i text0 text1
write_grew e stop lines i line text0 text text1 (inl is) first next so_far none part =
    let p = part is in
    subst (λ (z : Stop). Grew e z i text0 text1) (sym is) (
      joined lines ++ p.0,
      p.1 ∙ ap (λ (z : List ℕ). z ++ p.0) so_far ∙ append_assoc text0 (joined lines) p.0,
      record {
        said = p.0;
        text = ap (λ (z : List (List ℕ)). joined z ++ p.0) (sym first);
        part = subst (IsPart p.0) (sym next) p.2;
      },
    )
write_grew e stop lines i line text0 text text1 (inr is) first next so_far none part =
    subst (λ (z : Stop). Grew e z i text0 text1) (sym is) (some_grew e lines i text0 text1 first (none is ∙ so_far))
