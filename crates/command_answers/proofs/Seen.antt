-- What histories answer on the tree of a view is what they answer on what was left.
use Rattle.std.proofs.Common.{◌≡◌, ℕ, Bool, List, [], sym}
use Rattle.tree_cuts.specs.Calls.{Sizes}
use Rattle.history_model.specs.State.{Now}
use Rattle.history_model.specs.Answers.{make, unlink, rmdir, rename, stat, listing, at_path}
use Rattle.command_answers.specs.declared.views.View.{View}
use Rattle.command_answers.specs.Viewing.{Sees, left_alone, make_at}

module _ (sizes : Sizes) (n : Now) (s : ℕ) (v : View) (sees : Sees sizes n s v) where
  pub make_seen : (is_dir : Bool) (path : List (List ℕ)) → make_at v.tree.now v.next v.inodes v.gave_rows is_dir path ≡ make sizes n s is_dir path
  make_seen is_dir path = sym (λ i. make_at (sees.tree i) (sees.next i) (sees.inodes i) (sees.gave i) is_dir path)

  pub unlink_seen : (path : List (List ℕ)) → unlink sizes (left_alone v.tree.now) path ≡ unlink sizes n path
  unlink_seen path = sym (λ i. unlink sizes (record { tree = sees.tree i; choices = []; handles = sees.closed i; unsealed = []; next = 0; seals = 0 }) path)

  pub rmdir_seen : (path : List (List ℕ)) → rmdir sizes (left_alone v.tree.now) path ≡ rmdir sizes n path
  rmdir_seen path = sym (λ i. rmdir sizes (left_alone (sees.tree i)) path)

  pub rename_seen : (path to : List (List ℕ)) → rename sizes (left_alone v.tree.now) path to ≡ rename sizes n path to
  rename_seen path to = sym (λ i. rename sizes (record { tree = sees.tree i; choices = []; handles = sees.closed i; unsealed = []; next = 0; seals = 0 }) path to)

  pub stat_seen : (path : List (List ℕ)) → at_path v.tree.now path (stat sizes (left_alone v.tree.now)) ≡ at_path n.tree path (stat sizes n)
  stat_seen path = sym (λ i. at_path (sees.tree i) path (stat sizes (left_alone (sees.tree i))))

  pub list_seen : (skip : ℕ) (path : List (List ℕ)) → at_path v.tree.now path (listing sizes (left_alone v.tree.now) skip) ≡ at_path n.tree path (listing sizes n skip)
  list_seen skip path = sym (λ i. at_path (sees.tree i) path (listing sizes (left_alone (sees.tree i)) skip))
