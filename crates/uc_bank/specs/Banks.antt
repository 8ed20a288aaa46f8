-- What contracts see of a bank and of its normal forms, and what these are.
use Rattle.std.specs.Prelude.{◌≡◌, ◌<◌, ℕ, List, Some, length, slice_get}
use Rattle.boxcar.specs.Table.{Shelves}
use Rattle.uc_term.specs.Tree.{Tree}
use Rattle.uc_order.specs.Laws.{Meaning}
use Rattle.uc_fact.specs.Live.{Live}
use Rattle.uc_rewrite.specs.Normalising.{IsNormalOf}
use Rattle.uc_shelf.specs.Sights.{Sight}
use Rattle.uc_bank.specs.declared.forms.Form.{Form}

-- its shelf and its order
pub record BankView (O : Type 0) : Type 0 where
  pub shelf : Shelves
  pub order : O

-- the shelf, the order and the front of the normal forms
pub record FormsView (O : Type 0) : Type 0 where
  pub shelf : Shelves
  pub order : O
  pub front : Sight

-- by the facts that live, the remembered normal form is what normalising its term comes to
abbrev pub IsFormBy : Meaning → List Live → Form → Type 0
IsFormBy m live form = IsNormalOf m.greater m.least live form.limit form.term form.normal

-- at this place is a normal form of the term with at most so many steps
pub record IsPlaceOf (list : List Form) (term : Tree) (limit place : ℕ) : Type 0 where
  pub within : place < length list
  pub is_of : (form : Form) → slice_get list place ≡ Some form → (form.term ≡ term) × (form.limit ≡ limit)
