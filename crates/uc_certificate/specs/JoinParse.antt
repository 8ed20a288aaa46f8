-- What the grammar makes of the tokens of join lines: joins whose terms are by the numbers of tokens.
use Rattle.std.specs.Prelude.{ℕ, Bool, List}
use Rattle.uc_clause.specs.Parse.{Parse}
use Rattle.uc_certificate.specs.declared.certificate.AcTriple.{AcTriple}
use Rattle.uc_certificate.specs.declared.certificate.What.{What}

pub record Move : Type 0 where
  pub fact : ℕ
  pub left_to_right : Bool
  pub path : List ℕ
  pub to : Parse

-- what stands before the term of a move
pub record MoveHead : Type 0 where
  pub fact : ℕ
  pub left_to_right : Bool
  pub path : List ℕ

pub record Case : Type 0 where
  pub cases : List (List ℕ)
  pub left : List Move
  pub right : List Move

pub data Ending : Type 0 where
  by_same : Ending
  by_instance : ℕ → Ending
  by_orders : List Case → Ending
  by_ac : List AcTriple → Ending

pub record Join : Type 0 where
  pub what : What
  pub left : List Move
  pub right : List Move
  pub ending : Ending
