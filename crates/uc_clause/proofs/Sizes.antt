-- A term that is read has no more than 4,096 nodes.
use Rattle.std.proofs.Common.{ℕ, ◌+◌, ◌≤◌, List, arith}
use Rattle.uc_clause.specs.declared.token.Token.{Token}
use Rattle.uc_clause.specs.Rules.{Outcome, read, stop, mapped}
use Rattle.uc_clause.specs.Parse.{Parse, applied, Parses, also, size, size_all}
use Rattle.uc_clause.specs.Terms.{Term, Args, is_variable, is_constant, is_applied, is_node_too_many, is_no_term, stops_in_it, is_last, is_followed, is_one_too_many, is_followed_by_neither}

-- the sizes of what is read keep within the limit
abbrev FitsTerm : ℕ → Outcome Parse → Type 0
FitsTerm used (read p end) = used + size p ≤ 4096
FitsTerm used (stop why k) = Unit {0}

abbrev FitsArgs : ℕ → Outcome Parses → Type 0
FitsArgs used (read ps end) = used + size_all ps ≤ 4096
FitsArgs used (stop why k) = Unit {0}

fits_applied : (used at : ℕ) (o : Outcome Parses) → FitsArgs (used + 1) o → FitsTerm used (mapped (applied at) o)
fits_applied used at (read ps end) h = omega arith
fits_applied used at (stop why k) h = tt

fits_also : (used : ℕ) (p : Parse) (o : Outcome Parses) → FitsArgs (used + size p) o → FitsArgs used (mapped (also p) o)
fits_also used p (read ps end) h = omega arith
fits_also used p (stop why k) h = tt

mutual
  fits_term : {bytes : List ℕ} {tokens : List Token} {used at : ℕ} {o : Outcome Parse} → Term bytes tokens used at o → FitsTerm used o
  fits_term (is_variable h room) = omega arith
  fits_term (is_constant h room alone) = omega arith
  fits_term (is_applied {used = used} {at = at} {outcome = o} h room bracket args) = fits_applied used at o (fits_args args)
  fits_term (is_node_too_many h full) = tt
  fits_term (is_no_term h) = tt

  fits_args : {bytes : List ℕ} {tokens : List Token} {functor number used at : ℕ} {o : Outcome Parses} → Args bytes tokens functor number used at o → FitsArgs used o
  fits_args (stops_in_it t) = tt
  fits_args (is_last t close) = let h = fits_term t in omega arith
  fits_args (is_followed {used = used} {p = p} {outcome = o} t comma few args) = fits_also used p o (fits_args args)
  fits_args (is_one_too_many t comma many) = tt
  fits_args (is_followed_by_neither t close comma) = tt

pub term_small : (bytes : List ℕ) (tokens : List Token) (at end : ℕ) (p : Parse) → Term bytes tokens 0 at (read p end) → size p ≤ 4096
term_small bytes tokens at end p term = let h = fits_term term in omega arith
