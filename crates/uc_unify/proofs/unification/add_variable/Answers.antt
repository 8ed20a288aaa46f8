use Rattle.std.proofs.Common.{◌≡◌, ◌∙◌, inl, inr, refl, ap, arith, ◌++◌, ◌∷◌, [], Option, Some, None, is_some, Bool, true, false, IsTrue, MatchOption}
use Rattle.std.proofs.lemmas.Option.{slice_get-get_or}
use Rattle.uc_unify.specs.Closure.{class}
use Rattle.uc_unify.specs.Solutions.{is_free}
use Rattle.uc_term.specs.Flat.{tree_of}
use Rattle.uc_term.proofs.Terms.{whole_list}
use Rattle.uc_unify.proofs.unification.add_variable.Goals as goal

pub add-requires-clause-whole : goal.add-requires-clause-whole
add-requires-clause-whole c = rw c.as_slice.ensures.value (whole_list c.write_term.new.list.items c.requires.writable.term (c.in_ok-write_term.ensures c.requires.writable.term c.requires.writable.solves)).0

pub add-requires-clause-small : goal.add-requires-clause-small
add-requires-clause-small c = rw c.as_slice.ensures.value (let w = whole_list c.write_term.new.list.items c.requires.writable.term (c.in_ok-write_term.ensures c.requires.writable.term c.requires.writable.solves) in omega (arith, w.2, c.requires.writable.small))

none_found : {A : Type 0} {P : Type 0} (Q : A → Type 0) (o : Option A) → is_some o ≡ false → MatchOption o P Q → P
none_found Q None e m = m
none_found Q (Some a) e m = absurd cc

pub returns-in_ok-add : goal.returns-in_ok-add
returns-in_ok-add c = inr (inr (none_found _ c.get.result c.if-is_none.ensures c.get.ensures, (c.requires.writable.term, c.requires.writable.solves, c.in_ok-add.ensures.ok ∙ ap (λ t. c.args.subst.now ++ (c.args.x, t) ∷ []) (ap tree_of c.as_slice.ensures.value ∙ (whole_list c.write_term.new.list.items c.requires.writable.term (c.in_ok-write_term.ensures c.requires.writable.term c.requires.writable.solves)).1))))

holds : {A : Type 0} (b : Bool) → b ≡ true → (IsTrue b → A) → A
holds true e h = h refl
holds false e h = absurd cc

pub returns-then-is_var : goal.returns-then-is_var
returns-then-is_var c = inl (is_free (slice_get-get_or c.args.nodes.now (class c.args.classes.now c.args.place) _ (c.requires.classes.within c.args.place c.requires.within) ∙ ap Some (holds c.is_var.result c.if-is_var.true c.is_var.ensures.0)), refl)
