use Rattle.std.proofs.Common.{◌≡◌, ℕ, ◌+◌, ◌∷◌, [], ◌++◌, length, take, drop, sym, ap, ◌∙◌, subst, arith, length-append}
use Rattle.std.proofs.lemmas.List.{map-append, length-map}
use Rattle.boxcar.specs.Table.{Where}
use Rattle.uc_shelf.specs.declared.entry.Entry.{Entry}
use Rattle.uc_shelf.specs.Fronts.{AreAt}
use Rattle.uc_shelf.specs.Segments.{entries_of, homes_in}
use Rattle.uc_shelf.specs.Sights.{homes_of}
use Rattle.uc_shelf.proofs.Places.{to_shows, here_rest, here_both, here_one}
use Rattle.uc_shelf.proofs.Runs.{births_few}
use Rattle.uc_shelf.proofs.Segmented.{homes_cut, entries_cut}
use Rattle.uc_shelf.proofs.shelf.Shelf.merged.Goals as goal

pub of-requires-clause-here : goal.of-requires-clause-here
of-requires-clause-here c =
    let ps = c.args.segments.now in
    let qs = c.in_ok-places.places.items in
    let f : Where Entry → ℕ × ℕ = λ p. (p.bucket, p.row) in
    let late : homes_of qs ≡ homes_in (drop c.args.keep ps) = c.in_ok-places.ensures.homes ∙ ap homes_in c.split_at.ensures.back in
    let old : AreAt c.args.self.now (homes_of qs) = subst (AreAt c.args.self.now) (sym late) (here_rest c.args.self.now (homes_in (take c.args.keep ps)) (homes_in (drop c.args.keep ps)) (subst (AreAt c.args.self.now) (homes_cut c.args.keep ps) c.requires.of)) in
    let all : AreAt c.args.self.now (homes_of (qs ++ c.args.place ∷ [])) = subst (AreAt c.args.self.now) (sym (map-append f qs (c.args.place ∷ []))) (here_both c.args.self.now (homes_of qs) (f c.args.place ∷ []) old (here_one c.args.self.now (f c.args.place) c.requires.here)) in
    rw c.in_ok-push.ensures.items (to_shows c.args.self.now (qs ++ c.args.place ∷ []) all)

pub of-requires-clause-few : goal.of-requires-clause-few
of-requires-clause-few c =
    let ps = c.args.segments.now in
    let qs = c.in_ok-places.places.items in
    let g : Where Entry → Entry = λ p. p.value in
    let late : length qs ≡ length (entries_of (drop c.args.keep ps)) = sym (length-map qs g) ∙ ap length c.in_ok-places.ensures.entries ∙ ap (λ z. length (entries_of z)) c.split_at.ensures.back in
    let cut : length (entries_of ps) ≡ length (entries_of (take c.args.keep ps)) + length (entries_of (drop c.args.keep ps)) = ap length (entries_cut c.args.keep ps) ∙ length-append (entries_of (take c.args.keep ps)) (entries_of (drop c.args.keep ps)) in
    let few = births_few (entries_of (take c.args.keep ps)) in
    let more : length c.push.new.self.items ≡ length qs + 1 = ap length c.in_ok-push.ensures.items ∙ length-append qs (c.args.place ∷ []) in
    omega (arith, c.base_of-base.ensures, late, cut, few, more, c.requires.few)
