-- A tree that is printed behind a run on a new image is the run's.
use Rattle.std.proofs.Common.{◌≡◌, ◌⊎◌, inl, inr, ℕ, ◌-◌, Bool, true, false, cond, List, ◌++◌, refl, sym, ap, ◌∙◌, subst, arith}
use Rattle.std.specs.Prelude.{Option, Some, None, Result, Ok, Err}
use Rattle.std.proofs.lemmas.Option.{same_Some, some_pair_parts}
use Rattle.fault_counts.specs.Counts.{Rose}
use Rattle.ccfs_base.specs.declared.edges.Sink as sink
use Rattle.disk_model.specs.declared.disk.Disk.{Ghosts}
use Rattle.tree_model.specs.Rows.{Rows, alone}
use Rattle.tree_model.specs.Picture.{picture}
use Rattle.tree_cuts.specs.Calls.{Sizes}
use Rattle.block_layout.specs.declared.geometry.Geometry.{Geometry}
use Rattle.block_layout.specs.Sizes.{data_start}
use Rattle.script_text.specs.declared.scripts.Call.{Call}
use Rattle.script_text.specs.Scripts.{calls_of, first_unbuilt, is_long}
use Rattle.script_text.specs.Texts.{too_long_line}
use Rattle.script_text.specs.Trees.{tree_lines}
use Rattle.atomic_volume.specs.Opening.{Contents, opened}
use Rattle.recovery.specs.Fresh.{IsFresh}
use Rattle.recovery.specs.Recovering.{recovered_for_now}
use Rattle.ccfs_top.specs.Ends.{Ends, EndsWith, HasLine, IsFault, Wrote, joined}
use Rattle.ccfs_top.specs.Images.{Image, IsImage, Finding, Good, Spoilt, Unread, Finds, RecoversTo}
use Rattle.ccfs_top.specs.Outcomes.{IsNew, Ran, Printed, LeavesFinal, ShowsFinal}
use Rattle.ccfs_top.specs.Runs.{Expected, IsReady, ran, printed, over, over_calls, over_script, expected, calls_in, alone as alone_line}
use Rattle.ccfs_top.proofs.Closing.{expected_ready}
use Rattle.ccfs_top.proofs.Viewing.{recovered_shown}
use Rattle.crash_meaning.specs.Meaning.{calls_asked}
use Rattle.crash_meaning.specs.Composing.{new_image, ran_on_new, IsPrintedAgain, RowsCompose}

-- ---- ends with status 0

no_fault : IsFault 0 → ⊥
no_fault (inl is) = omega (arith, is)
no_fault (inr (inl is)) = omega (arith, is)
no_fault (inr (inr (inl is))) = omega (arith, is)
no_fault (inr (inr (inr is))) = omega (arith, is)

no_line : (line : List ℕ) → HasLine 0 line → ⊥
no_line line (inl is) = let zero = is.0 in omega (arith, zero)
no_line line (inr (inl is)) = let zero = is.0 in omega (arith, zero)
no_line line (inr (inr is)) = let zero = is.0 in omega (arith, zero)

-- 0 was to come
zero_was : (e : Expected) (lines number : ℕ) → EndsWith e lines 0 number → 0 ≡ e.status
zero_was e lines number ends = go ends.status
  where
    go : (0 ≡ e.status) ⊎ IsFault 0 → 0 ≡ e.status
    go (inl is) = is
    go (inr fault) = absurd (no_fault fault)

-- and all of it was written
all_written : (e : Expected) (failed : Type 0) (lines : ℕ) (text0 text1 : List ℕ) → Wrote e failed lines 0 text0 text1 → text1 ≡ text0 ++ (joined e.replies ++ e.last)
all_written e failed lines text0 text1 wrote = wrote.1 ∙ ap (λ (z : List ℕ). text0 ++ z) (go wrote.2)
  where
    go : Ends e failed lines 0 wrote.0 → wrote.0 ≡ joined e.replies ++ e.last
    go (inl end) = end.text ∙ ap (λ (z : List ℕ). joined e.replies ++ z) (end.whole refl)
    go (inr (inl by)) = let no = by.status in absurd (omega (arith, no))
    go (inr (inr by)) = absurd (no_line by.line by.fault)

-- ---- scripts that were run

-- a script that ends with status 0 over some image is ready
ready_of : (script : List ℕ) (seen : Finding Image) → 0 ≡ (expected script seen).status → (calls : List Call) × IsReady script calls
ready_of script seen zero = short (is_long script) refl zero
  where
    built : (calls : List Call) (o : Option ℕ) → first_unbuilt calls ≡ o → calls_of script ≡ Ok calls → is_long script ≡ false → 0 ≡ (over_calls seen calls o).status → (calls : List Call) × IsReady script calls
    built calls (Some line) is grammar long z = absurd (omega (arith, z))
    built calls None is grammar long z = (calls, record { in_grammar = grammar; short = long; built = is })

    grammar : (r : Result (List Call) ℕ) → calls_of script ≡ r → is_long script ≡ false → 0 ≡ (over_script seen r).status → (calls : List Call) × IsReady script calls
    grammar (Err line) is long z = absurd (omega (arith, z))
    grammar (Ok calls) is long z = built calls (first_unbuilt calls) refl is long z

    short : (b : Bool) → is_long script ≡ b → 0 ≡ (cond b (alone_line 4 too_long_line) (over_script seen (calls_of script))).status → (calls : List Call) × IsReady script calls
    short true is z = absurd (omega (arith, z))
    short false is z = grammar (calls_of script) refl is z

-- what comes of its calls is the run
ran_is : (script : List ℕ) (image : Image) → 0 ≡ (expected script (Good image)).status → expected script (Good image) ≡ ran image (calls_asked script)
ran_is script image zero =
    let ready = ready_of script (Good image) zero in
    expected_ready script (Good image) ready.0 ready.1 ∙ ap (λ (z : List Call). ran image z) (sym (ap calls_in ready.1.in_grammar))

-- ---- new images

-- the image that is found where one was just made
new_found : (geometry : Geometry) (c : List ℕ) (image : Image) → IsFresh geometry c → IsImage image c → image ≡ new_image geometry.blocks geometry.inodes
new_found geometry c image fresh is =
    let parts = some_pair_parts image.number 0 image.tree (alone 0) (sym is.recovers ∙ fresh.tree) in
    let same : is.contents ≡ fresh.contents = same_Some is.contents fresh.contents (sym is.opens ∙ fresh.opens) in
    let blocks : is.contents.blocks ≡ geometry.blocks = ap (λ (z : Contents). z.blocks) same ∙ fresh.blocks in
    let inodes : is.contents.inodes ≡ geometry.inodes = ap (λ (z : Contents). z.inodes) same ∙ fresh.inodes in
    let sizes : image.sizes ≡ record { data_blocks = geometry.blocks - data_start geometry.inodes; inodes = geometry.inodes } =
    is.sizes_are ∙ ap (λ (z : ℕ). record { data_blocks = z - data_start is.contents.inodes; inodes = is.contents.inodes }) blocks
    ∙ ap (λ (z : ℕ). record { data_blocks = geometry.blocks - data_start z; inodes = z }) inodes in
    whole image.number 0 image.tree (alone 0) image.sizes _ parts.0 parts.1 sizes
  where
    whole : (n m : ℕ) (t u : Rows) (a b : Sizes) → n ≡ m → t ≡ u → a ≡ b
        → ◌≡◌ {A = Image} (record { number = n; tree = t; sizes = a }) (record { number = m; tree = u; sizes = b })
    whole n m t u a b x y z = cc (x, y, z)

-- ---- the rows

module _ {X : Type 0} (d : Ghosts X) (made done : X) (blocks inodes : ℕ) (script : List ℕ) (tells failed failed_again : Type 0) (number again : ℕ) (text0 text1 text2 text3 : List ℕ)
    (left : d.may_leave done (d.seen done)) (new : IsNew d made blocks inodes) where
  -- the image that the run found is the new one
  found_new : (found : List ℕ) (image : Image) → found ≡ d.seen made → IsImage image found → image ≡ new_image blocks inodes
  found_new found image same is =
      new_found new.geometry (d.seen made) image new.fresh (subst (IsImage image) same is)
      ∙ ap (λ (z : ℕ). new_image z new.geometry.inodes) new.blocks_are ∙ ap (new_image blocks) new.inodes_are

  -- behind a run on this image, with this tree found then
  behind : (image : Image) (lines : ℕ) → image ≡ new_image blocks inodes → ShowsFinal d done image (calls_asked script)
      → EndsWith (expected script (Good image)) lines 0 number → (tells → Wrote (expected script (Good image)) failed lines 0 text0 text1)
      → (seen : Finding (ℕ × Rows)) → Finds RecoversTo (d.seen done) seen → EndsWith (over printed seen) 0 0 again → (tells → Wrote (over printed seen) failed_again 0 0 text2 text3)
      → IsPrintedAgain (ran_on_new blocks inodes script) tells number again text0 text1 text2 text3
  behind image lines is exact ends wrote (Spoilt kind block) finds tree_ends tree_wrote = absurd (let zero = zero_was (over printed (Spoilt kind block)) 0 again tree_ends in omega (arith, zero))
  behind image lines is exact ends wrote Unread finds tree_ends tree_wrote = absurd (let zero = zero_was (over printed Unread) 0 again tree_ends in omega (arith, zero))
  behind image lines is exact ends wrote (Good p) finds tree_ends tree_wrote =
      let zero = zero_was (expected script (Good image)) lines number ends in
      let run = ran_is script image zero in
      let e = ran image (calls_asked script) in
      let on_new : e ≡ ran_on_new blocks inodes script = ap (λ (z : Image). ran z (calls_asked script)) is in
      let shown = recovered_shown (d.seen done) p.0 _ p.1 _ finds (exact (d.seen done) left) in
      let number_is : number ≡ e.batches = ends.batches zero ∙ ap (λ (z : Expected). z.batches) run in
      subst (λ (z : Expected). IsPrintedAgain z tells number again text0 text1 text2 text3) on_new record {
        number_is = number_is;
        same = tree_ends.batches refl ∙ shown.0 ∙ sym number_is;
        run = λ told. all_written (expected script (Good image)) failed lines text0 text1 (wrote told) ∙ ap (λ (z : Expected). text0 ++ (joined z.replies ++ z.last)) run;
        tree = λ told. all_written (printed p) failed_again 0 text2 text3 (tree_wrote told)
            ∙ ap (λ (z : List ℕ). text2 ++ z) (ap (λ (z : ℕ). tree_lines z (picture p.1)) shown.0 ∙ ap (tree_lines _) shown.1);
      }

  by_found : (found : List ℕ) (seen : Finding Image) (lines : ℕ) → found ≡ d.seen made → Finds IsImage found seen → LeavesFinal d done (calls_asked script) seen
      → EndsWith (expected script seen) lines 0 number → (tells → Wrote (expected script seen) failed lines 0 text0 text1) → Printed (d.seen done) tells failed_again 0 again text2 text3
      → IsPrintedAgain (ran_on_new blocks inodes script) tells number again text0 text1 text2 text3
  by_found found (Good image) lines same is exact ends wrote tree = behind image lines (found_new found image same is) exact ends wrote tree.seen tree.finds tree.ends tree.wrote
  by_found found (Spoilt kind block) lines same is never ends wrote tree = absurd never
  by_found found Unread lines same is never ends wrote tree = absurd never

pub rows_compose : {X K : Type 0} (d : Ghosts X) (k : sink.Ghosts K) → (d.tells → (x : X) → d.may_leave x (d.seen x)) → RowsCompose d k
rows_compose d k left made done blocks inodes script number again out0 out1 out2 out3 told new sure run done_sure tree =
    by_found d made done blocks inodes script k.tells (Rose (k.faults out0) (k.faults out1)) (Rose (k.faults out2) (k.faults out3)) number again (k.held out0) (k.held out1) (k.held out2) (k.held out3) (left told done) new
    run.found run.seen run.lines (run.from_start.as_seen sure) run.finds (run.exact refl) run.ends run.wrote tree
