-- What a session keeps when a call is made.
use Rattle.std.proofs.Common.{◌≡◌, ℕ, ◌<◌, ◌≤◌, Bool, true, false, cond, Option, None, Some, List, [], ◌∷◌, ◌++◌, length, refl, sym, ◌∙◌, ap, subst, arith, length-append}
use Rattle.std.specs.FinMap.{get}
use Rattle.std.proofs.lemmas.List.{get_or_append_left}
use Rattle.block_layout.specs.declared.geometry.Geometry.{Geometry}
use Rattle.ccfs_base.specs.declared.commands.Command.{Command}
use Rattle.tree_model.specs.declared.rows.Row.{Row}
use Rattle.tree_model.specs.declared.rows.Update.{Update}
use Rattle.tree_model.specs.declared.rows.Update.TheVariants.{Make, Write, Resize, Remove, Move, Release}
use Rattle.tree_model.specs.declared.rows.Entry.{Entry}
use Rattle.tree_model.specs.Rows.{Rows}
use Rattle.tree_cuts.specs.Calls.{Sizes}
use Rattle.history_model.specs.State.{Now}
use Rattle.history_model.specs.Histories.{start, now_after, seal_count, tree_at}
use Rattle.history_model.proofs.Longer.{now_append, seals_counted, longer_trees}
use Rattle.image_model.specs.Volumes.{Volume, volume_of}
use Rattle.image_model.specs.CarriedLaws.{HaveSameInodes}
use Rattle.image_model.proofs.CarriedSerials.{free_serials_may_change}
use Rattle.carried_volumes.specs.Carried.{Carried, no_bytes}
use Rattle.front_laws.specs.Inodes.{with_inode}
use Rattle.front_core.specs.Fronts.{Fronted, seals_of, next_entry, next_history, IsActed}
use Rattle.tree_model.specs.Picture.{picture}
use Rattle.ccfs_top.specs.Runs.{further}
use Rattle.ccfs_base.specs.declared.replies.Reply.{Reply}
use Rattle.ccfs_top.specs.Stages.{is_sync_form}
use Rattle.ccfs_top.specs.Sessions.{Settled, ShowsOneOf, IsStepped, cut_tree}

-- ---- more inodes

-- the inodes of rows stay where a list of inodes has one more at its end
with_one : (t : Rows) (inodes : List ℕ) (i : ℕ) → ((s : ℕ) (r : Row) → get t s ≡ Some r → s < length inodes) → HaveSameInodes t inodes (inodes ++ i ∷ [])
with_one t inodes i listed s r there =
    let less = listed s r there in
    let long = length-append inodes (i ∷ []) in
    (omega (arith, less, long), get_or_append_left inodes (i ∷ []) 0 s less)

with_none : (t : Rows) (inodes : List ℕ) → ((s : ℕ) (r : Row) → get t s ≡ Some r → s < length inodes) → HaveSameInodes t inodes inodes
with_none t inodes listed s r there = (listed s r there, refl)

pub inodes_stay : (t : Rows) (inodes : List ℕ) (u : Option Update) (i : ℕ) → ((s : ℕ) (r : Row) → get t s ≡ Some r → s < length inodes) → HaveSameInodes t inodes (with_inode u i inodes)
inodes_stay t inodes None i listed = with_none t inodes listed
inodes_stay t inodes (Some (Make dir name id is_dir)) i listed = with_one t inodes i listed
inodes_stay t inodes (Some (Write id off bytes)) i listed = with_none t inodes listed
inodes_stay t inodes (Some (Resize id len)) i listed = with_none t inodes listed
inodes_stay t inodes (Some (Remove dir name id stays)) i listed = with_none t inodes listed
inodes_stay t inodes (Some (Move dir name to_dir to_name id is_dir replaced stays)) i listed = with_none t inodes listed
inodes_stay t inodes (Some (Release id)) i listed = with_none t inodes listed

-- a volume carries a tree with each list that has the same inodes for its rows
carried_with : (v : Volume) (t : Rows) (inodes others : List ℕ) → Carried v t inodes → HaveSameInodes t inodes others → Carried v t others
carried_with v t inodes others carried same = record {
  sized = carried.sized;
  rows = free_serials_may_change v no_bytes t inodes others carried.rows carried.plain.tree same;
  orphans = carried.orphans;
  plain = carried.plain;
  unused = carried.unused;
  counted = carried.counted;
}

-- ---- longer histories

-- One front is another with more calls.
pub record IsLonger (old new : Fronted) : Type 0 where
  pub sizes : new.sizes ≡ old.sizes
  pub opening : new.opening ≡ old.opening
  pub more : List Entry
  pub entries : new.entries ≡ old.entries ++ more

seals_more : (k : Sizes) (n : Now) (h g : List Entry) → seal_count k n h ≤ seal_count k n (h ++ g)
seals_more k n h g =
    let whole = seals_counted k n (h ++ g) in
    let both = ap (λ (z : Now). z.seals) (now_append k n h g) in
    let front = seals_counted k n h in
    let rest = seals_counted k (now_after k n h) g in
    omega (arith, whole, both, front, rest)

-- where all but the history are the same
abbrev count_of : Sizes → Rows → List Entry → ℕ
count_of sizes t h = seal_count sizes (start t) h

pub seals_same : (old new : Fronted) → new.sizes ≡ old.sizes → new.opening ≡ old.opening → (h : List Entry) → new.entries ≡ h → seals_of new ≡ count_of old.sizes old.opening h
seals_same old new sizes opening h entries =
    ap (λ (z : Sizes). count_of z new.opening new.entries) sizes ∙ ap (λ (z : Rows). count_of old.sizes z new.entries) opening ∙ ap (count_of old.sizes old.opening) entries

pub cuts_same : (old new : Fronted) → new.sizes ≡ old.sizes → new.opening ≡ old.opening → (h : List Entry) → new.entries ≡ h → (k : ℕ) → cut_tree new k ≡ tree_at old.sizes (start old.opening) h k
cuts_same old new sizes opening h entries k =
    ap (λ (z : Sizes). tree_at z (start new.opening) new.entries k) sizes ∙ ap (λ (z : Rows). tree_at old.sizes (start z) new.entries k) opening
    ∙ ap (λ (z : List Entry). tree_at old.sizes (start old.opening) z k) entries

module _ (old new : Fronted) (longer : IsLonger old new) where
  pub longer_seals : seals_of old ≤ seals_of new
  longer_seals =
      let same = seals_same old new longer.sizes longer.opening (old.entries ++ longer.more) longer.entries in
      let more = seals_more old.sizes (start old.opening) old.entries longer.more in
      omega (arith, same, more)

  pub longer_cuts : (k : ℕ) → k ≤ seals_of old → cut_tree new k ≡ cut_tree old k
  longer_cuts k le = cuts_same old new longer.sizes longer.opening (old.entries ++ longer.more) longer.entries k ∙ longer_trees old.sizes (start old.opening) old.entries longer.more k le

  pub settled_longer : (g : Geometry) (bytes at_hand : List ℕ) (first k : ℕ) → Settled g bytes at_hand old first k → HaveSameInodes (cut_tree old k) old.inodes new.inodes → Settled g bytes at_hand new first k
  settled_longer g bytes at_hand first k settled same =
      let few = settled.few in
      let more = longer_seals in
      record {
        sizes = longer.sizes ∙ settled.sizes;
        carried = subst (λ (z : Rows). Carried (volume_of g bytes) z new.inodes) (sym (longer_cuts k few)) (carried_with (volume_of g bytes) (cut_tree old k) old.inodes new.inodes settled.carried same);
        copied = settled.copied;
        number = settled.number;
        few = omega (arith, few, more);
      }

-- ---- a call

-- the inodes of rows that a volume carries are listed
listed_in : (g : Geometry) (bytes at_hand : List ℕ) (front : Fronted) (first k : ℕ) → Settled g bytes at_hand front first k → (s : ℕ) (r : Row) → get (cut_tree front k) s ≡ Some r → s < length front.inodes
listed_in g bytes at_hand front first k settled s r there = (settled.carried.rows.renamed.each s r there).0

pub acted_longer : (old new : Fronted) (actor : ℕ) (c : Command) → IsActed old actor c new → IsLonger old new
acted_longer old new actor c acted = record { sizes = acted.sizes; opening = acted.opening; more = next_entry old actor c ∷ []; entries = acted.entries }

pub settled_acted : (g : Geometry) (bytes at_hand : List ℕ) (old new : Fronted) (first k actor : ℕ) (c : Command) → IsActed old actor c new → Settled g bytes at_hand old first k → Settled g bytes at_hand new first k
settled_acted g bytes at_hand old new first k actor c acted settled =
    let same : HaveSameInodes (cut_tree old k) old.inodes new.inodes =
    subst (λ (z : List ℕ). HaveSameInodes (cut_tree old k) old.inodes z) (sym acted.inodes.1)
    (inodes_stay (cut_tree old k) old.inodes (next_entry old actor c).update acted.inodes.0 (listed_in g bytes at_hand old first k settled)) in
    settled_longer old new (acted_longer old new actor c acted) g bytes at_hand first k settled same

-- the front with the history of a call, where the call isn't made
abbrev pub asked_of : Fronted → ℕ → Command → Fronted
asked_of front actor c = record front { entries = next_history front actor c }

pub settled_asked : (g : Geometry) (bytes at_hand : List ℕ) (front : Fronted) (first k actor : ℕ) (c : Command) → Settled g bytes at_hand front first k → Settled g bytes at_hand (asked_of front actor c) first k
settled_asked g bytes at_hand front first k actor c settled =
    settled_longer front (asked_of front actor c) (record { sizes = refl; opening = refl; more = next_entry front actor c ∷ []; entries = refl })
    g bytes at_hand first k settled (with_none (cut_tree front k) front.inodes (listed_in g bytes at_hand front first k settled))

-- what an image shows of the front behind a call it shows of the history with it
pub shows_acted : (old new : Fronted) (first least most actor : ℕ) (c : Command) (x : List ℕ) → IsActed old actor c new → most ≤ seals_of new → ShowsOneOf new first least most x
    → ShowsOneOf (asked_of old actor c) first least (seals_of (asked_of old actor c)) x
shows_acted old new first least most actor c x acted le shows =
    let few = shows.few in
    let same : seals_of new ≡ seals_of (asked_of old actor c) = seals_same old new acted.sizes acted.opening (next_history old actor c) acted.entries in
    record {
      cut = shows.cut;
      enough = shows.enough;
      few = omega (arith, few, le, same);
      shows = shows.shows ∙ ap (λ (z : Rows). Some (further first shows.cut, picture z)) (cuts_same old new acted.sizes acted.opening (next_history old actor c) acted.entries shows.cut);
    }

-- ---- a call that was performed

-- a sync form, behind which nothing waits
pub stepped_sync : (old mid new : Fronted) (written written' actor : ℕ) (c : Command) (reply : Reply) → IsActed old actor c mid → reply ≡ (next_entry old actor c).reply
    → new ≡ record mid { handed = seals_of mid } → written' ≡ seals_of mid → is_sync_form c ≡ true → IsStepped old written actor c reply new written'
stepped_sync old mid new written written' actor c reply acted answered same all is = record {
  reply_is = answered;
  sizes = ap (λ (z : Fronted). z.sizes) same ∙ acted.sizes;
  limit = ap (λ (z : Fronted). z.limit) same ∙ acted.limit;
  opening = ap (λ (z : Fronted). z.opening) same ∙ acted.opening;
  entries = ap (λ (z : Fronted). z.entries) same ∙ acted.entries;
  handed = ap (λ (z : Fronted). z.handed) same ∙ sym all;
  written_is = all ∙ sym (ap seals_of same) ∙ ap (λ (z : Bool). cond z (seals_of new) written) (sym is);
}

-- any other call
pub stepped_other : (old new : Fronted) (written actor : ℕ) (c : Command) (reply : Reply) → IsActed old actor c new → reply ≡ (next_entry old actor c).reply
    → old.handed ≡ written → is_sync_form c ≡ false → IsStepped old written actor c reply new written
stepped_other old new written actor c reply acted answered handed is = record {
  reply_is = answered;
  sizes = acted.sizes;
  limit = acted.limit;
  opening = acted.opening;
  entries = acted.entries;
  handed = acted.handed ∙ handed;
  written_is = ap (λ (z : Bool). cond z (seals_of new) written) (sym is);
}
