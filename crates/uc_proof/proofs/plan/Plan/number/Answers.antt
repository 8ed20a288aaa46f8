use Rattle.std.proofs.Common.{◌≡◌, ℕ, List, Some, None, slice_get, refl, sym, ap, ◌∙◌, subst}
use Rattle.std.specs.Option.{option_copied}
use Rattle.uc_proof.specs.declared.part.Part.{Part}
use Rattle.uc_proof.specs.Making.{IsAmong}
use Rattle.uc_proof.proofs.Same.{same, decides}
use Rattle.uc_proof.proofs.Numbers.{found}
use Rattle.uc_proof.proofs.plan.Plan.number.Goals as goal

pub unreachable-requires : goal.unreachable-requires
unreachable-requires c =
    let f = found same decides c.self.inside.parts.items c.args.part (same c.args.part) (λ k. refl) c.self.inside.numbers.entries (c.self.invariant c.args.part (subst (IsAmong c.args.part) (sym c.self.view_is) c.requires)) in
    let q : None ≡ Some f.0 = ap option_copied (sym c.in-None.is) ∙ c.get.ensures.value ∙ f.1 in
    cc

pub returns : goal.returns
returns c =
    let f = found same decides c.self.inside.parts.items c.args.part (same c.args.part) (λ k. refl) c.self.inside.numbers.entries (c.self.invariant c.args.part (subst (IsAmong c.args.part) (sym c.self.view_is) c.requires)) in
    let q : Some c.in-Some.number.now ≡ Some f.0 = ap option_copied (sym c.in-Some.is) ∙ c.get.ensures.value ∙ f.1 in
    let n : f.0 ≡ c.in-Some.number.now = cc in
    subst (λ (l : List Part). slice_get l c.in-Some.number.now ≡ Some c.args.part) c.self.view_is (subst (λ (k : ℕ). slice_get c.self.inside.parts.items k ≡ Some c.args.part) n f.2)
