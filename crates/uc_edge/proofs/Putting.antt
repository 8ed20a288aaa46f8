-- The pieces that a sink is given, one after the other.
use Rattle.std.proofs.Common.{◌≡◌, List, [], ◌∷◌, ◌++◌, ap, ◌∙◌}
use Rattle.std.proofs.lemmas.List.{append_assoc}

-- one more
pub one_more : {A : Type 0} {between new : List A} (old pieces : List A) (piece : A) → between ≡ old ++ pieces → new ≡ between ++ piece ∷ [] → new ≡ old ++ (pieces ++ piece ∷ [])
one_more {A} {between} {new} old pieces piece e f = f ∙ ap (λ (l : List A). l ++ piece ∷ []) e ∙ append_assoc old pieces (piece ∷ [])
