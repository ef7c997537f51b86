-- What a caller knows of a name that was read.
use Rattle.std.proofs.Common.{◌≡◌, true, false, ℕ, Some, Result, Ok, Err, MatchResult, IsTrue, List, ap}
use Rattle.std.specs.Result.{result_ok}
use Rattle.ccfs_base.specs.Names.{is_name}
use Rattle.ccfs_base.specs.declared.naming.NameFault.{NameFault}

pub parsed_name : (text : List ℕ) (r : Result (List ℕ) NameFault) → MatchResult r (λ name. (name ≡ text) × IsTrue (is_name text)) (λ _. is_name text ≡ false) → is_name text ≡ true → result_ok r ≡ Some text
parsed_name text (Ok name) h named = ap (λ (z : List ℕ). Some z) h.0
parsed_name text (Err fault) h named = cc
