-- A book that is the same after two calls.
use Rattle.std.proofs.Common.{◌∙◌}
use Rattle.uc_book.specs.Openings.{BookView}
use Rattle.uc_book.specs.Answers.{IsSameBook}

pub same_twice : {O : Type 0} (a b c : BookView O) → IsSameBook a b → IsSameBook b c → IsSameBook a c
same_twice a b c x y = record { opening = y.opening ∙ x.opening; order = y.order ∙ x.order; enrolled = y.enrolled ∙ x.enrolled }
