-- The test by which parts are compared.
use Rattle.std.proofs.Common.{rules, ◌≡◌, ◌↔◌, Bool, true}
use Rattle.uc_proof.specs.declared.part.Part.{Part}
use Rattle.uc_proof.specs.contracts.part.PartPartialEq.TheImpl.{eq-value}

abbrev pub same : Part → Part → Bool
same a b = eq-value.it a b

pub decides : (a b : Part) → (same a b ≡ true) ↔ (a ≡ b)
decides a b = search rules
