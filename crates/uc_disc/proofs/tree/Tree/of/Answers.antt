use Rattle.std.proofs.Common.{◌≡◌, sym, subst, ℕ, List, length, slice_get, Some, map, ap, ◌∙◌, drop, take, ◌++◌, []}
use Rattle.std.proofs.lemmas.List.{length-map}
use Rattle.uc_fact.specs.Live.{rules_of}
use Rattle.uc_disc.specs.declared.build.Spelled.{Spelled}
use Rattle.uc_disc.specs.declared.place.Place.{Place}
use Rattle.uc_disc.specs.Numbered.{lives}
use Rattle.uc_disc.specs.Trail.{bare, AreMarks, AreBelow, AreSupported}
use Rattle.uc_disc.specs.Heads.{AreHeads}
use Rattle.uc_disc.specs.Idle.{AreIdleRules, AreIdle}
use Rattle.uc_term.specs.declared.equation.Equation.{Equation}
use Rattle.uc_disc.proofs.Whole.{short_sorted, is_built, short_places, tree_whole, lent_all}
use Rattle.uc_disc.proofs.tree.Tree.of.Goals as goal

long : (new old items : List Place) (n : ℕ) → map bare new ≡ map bare old → old ≡ items → length items ≡ n → length new ≡ n
long new old items n e same h = sym (length-map new bare) ∙ ap length e ∙ length-map old bare ∙ ap length same ∙ h

pub places_of-requires : goal.places_of-requires
places_of-requires c = record { short = λ i s e. short_sorted (rules_of (lives c.as_slice.result.now)) c.in_ok-list.list.items c.sort.new.self.items c.in_ok-list.ensures c.sort.ensures.permutation i s (subst (λ (z : List Spelled). slice_get z i ≡ Some s) c.as_slice-2.ensures.value e) }

pub heads_of-requires-clause-supported : goal.heads_of-requires-clause-supported
heads_of-requires-clause-supported c = subst (AreSupported []) (sym (c.as_slice-3.ensures.value ∙ lent_all c.in_ok-places.places.items c.set_marks.new.places c.in_ok-places.places.len (long c.set_marks.new.places c.as_mut_slice.result.now c.in_ok-places.places.items c.in_ok-places.places.len c.set_marks.ensures.same c.as_mut_slice.ensures.value (sym c.in_ok-places.places.ok.0)))) (is_built (rules_of (lives c.as_slice.result.now)) c.in_ok-list.list.items c.as_slice-2.result.now c.in_ok-list.ensures (rw c.as_slice-2.ensures.value c.sort.ensures.permutation) c.in_ok-places.places.items c.in_ok-places.ensures c.set_marks.new.places (c.set_marks.ensures.same ∙ ap (map bare) c.as_mut_slice.ensures.value)).supported

pub heads_of-requires-clause-marks : goal.heads_of-requires-clause-marks
heads_of-requires-clause-marks c = subst AreMarks (sym (c.as_slice-3.ensures.value ∙ lent_all c.in_ok-places.places.items c.set_marks.new.places c.in_ok-places.places.len (long c.set_marks.new.places c.as_mut_slice.result.now c.in_ok-places.places.items c.in_ok-places.places.len c.set_marks.ensures.same c.as_mut_slice.ensures.value (sym c.in_ok-places.places.ok.0)))) c.set_marks.ensures.marks

pub depth_of-deep-requires : goal.depth_of-deep-requires
depth_of-deep-requires c = record { short = λ i p e. short_places (rules_of (lives c.as_slice.result.now)) c.in_ok-list.list.items c.as_slice-2.result.now c.in_ok-list.ensures (rw c.as_slice-2.ensures.value c.sort.ensures.permutation) c.in_ok-places.places.items c.in_ok-places.ensures c.set_marks.new.places (c.set_marks.ensures.same ∙ ap (map bare) c.as_mut_slice.ensures.value) i p (subst (λ (z : List Place). slice_get z i ≡ Some p) (c.as_slice-4.ensures.value ∙ lent_all c.in_ok-places.places.items c.set_marks.new.places c.in_ok-places.places.len (long c.set_marks.new.places c.as_mut_slice.result.now c.in_ok-places.places.items c.in_ok-places.places.len c.set_marks.ensures.same c.as_mut_slice.ensures.value (sym c.in_ok-places.places.ok.0))) e) }

pub idle_end-idle_end-requires : goal.idle_end-idle_end-requires
idle_end-idle_end-requires c = record { supported = subst (AreSupported []) (sym (c.as_slice-7.ensures.value ∙ lent_all c.in_ok-places.places.items c.set_marks.new.places c.in_ok-places.places.len (long c.set_marks.new.places c.as_mut_slice.result.now c.in_ok-places.places.items c.in_ok-places.places.len c.set_marks.ensures.same c.as_mut_slice.ensures.value (sym c.in_ok-places.places.ok.0)))) (is_built (rules_of (lives c.as_slice.result.now)) c.in_ok-list.list.items c.as_slice-2.result.now c.in_ok-list.ensures (rw c.as_slice-2.ensures.value c.sort.ensures.permutation) c.in_ok-places.places.items c.in_ok-places.ensures c.set_marks.new.places (c.set_marks.ensures.same ∙ ap (map bare) c.as_mut_slice.ensures.value)).supported }

pub invariant_of-result : goal.invariant_of-result
invariant_of-result c =
    let all : take c.in_ok-places.places.len (c.set_marks.new.places ++ drop (length c.set_marks.new.places) c.in_ok-places.places.items) ≡ c.set_marks.new.places = lent_all c.in_ok-places.places.items c.set_marks.new.places c.in_ok-places.places.len (long c.set_marks.new.places c.as_mut_slice.result.now c.in_ok-places.places.items c.in_ok-places.places.len c.set_marks.ensures.same c.as_mut_slice.ensures.value (sym c.in_ok-places.places.ok.0)) in
    let t = tree_whole (rules_of (lives c.as_slice.result.now)) c.in_ok-list.list.items c.as_slice-2.result.now c.in_ok-list.ensures (rw c.as_slice-2.ensures.value c.sort.ensures.permutation) c.in_ok-places.places.items c.in_ok-places.ensures c.set_marks.new.places (c.set_marks.ensures.same ∙ ap (map bare) c.as_mut_slice.ensures.value) c.depth_of-deep.result c.set_marks.ensures.marks (subst (λ (z : List Place). AreBelow c.depth_of-deep.result z) (c.as_slice-4.ensures.value ∙ all) c.depth_of-deep.ensures.below) in
    let idle : AreIdleRules (rules_of (lives c.args.facts.items)) c.in_ok-idle.idle.items = subst (λ (z : List (ℕ × Equation)). AreIdleRules (rules_of (lives z)) c.in_ok-idle.idle.items) c.as_slice-5.ensures.value c.in_ok-idle.ensures in
    (c.requires.rising, c.requires.few, rw (all, ← c.as_slice.ensures.value) t, c.depth_of-deep.ensures.small, subst (λ (z : List Place). AreHeads z c.in_ok-heads.heads.items (length z)) c.as_slice-3.ensures.value c.in_ok-heads.ensures, idle, subst (λ (z : List Place). AreIdle (rules_of (lives c.args.facts.items)) z c.idle_end-idle_end.result) c.as_slice-7.ensures.value (c.idle_end-idle_end.ensures (rules_of (lives c.args.facts.items)) (subst (AreIdleRules (rules_of (lives c.args.facts.items))) (sym c.as_slice-6.ensures.value) idle)))
