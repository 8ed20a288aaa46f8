use Rattle.std.proofs.Common.{◌≡◌, ◌+◌, ◌++◌, length, take, drop, sym, ap, ◌∙◌, arith}
use Rattle.uc_term.specs.Flat.{tree_of}
use Rattle.uc_fact.specs.Live.{rules_of}
use Rattle.uc_disc.specs.Numbered.{risen}
use Rattle.uc_shelf.specs.Entries.{born, live, living}
use Rattle.uc_shelf.specs.Segments.{Stretch, entries_of}
use Rattle.uc_shelf.specs.Viewing.{found_living, still_living}
use Rattle.uc_shelf.proofs.Alive.{gen_living}
use Rattle.uc_shelf.proofs.Segmented.{rules_here, rules_end}
use Rattle.uc_shelf.proofs.Viewed.{ahead_on, all_found}
use Rattle.uc_shelf.proofs.view.View.all_in_trees.Goals as goal

pub loop-k-preserved : goal.loop-k-preserved
loop-k-preserved c =
    let ps = c.segments-segments.result.now in
    let es = entries_of ps in
    let k = c.loop-k.k in
    let p = c.index-segments-k.result in
    let t = tree_of c.args.term.now in
    let fs = risen 0 c.tree.result.now in
    let of : fs ≡ living p.value.entries p.value.base p.value.entries = c.tree.ensures ∙ ap (λ (s : Stretch). living s.entries s.base s.entries) c.deref.ensures in
    let self : c.args.self.now ≡ es = sym c.self.view_is ∙ sym c.segments-segments.ensures.entries in
    let list = found_living es c.in_ok-found.found in
    let at = rules_here ps k p fs c.segments-segments.ensures.based c.loop-k-test.true c.index-segments-k.is of in
    let is : c.add_living.new.list.items ≡ c.loop-k.list.items ++ list = c.in_ok-add_living.ensures ∙ ap (λ z. c.loop-k.list.items ++ found_living z c.in_ok-found.found) self in
    ahead_on t (rules_of (live es)) (rules_of (living es (length (born (entries_of (take k ps)))) (entries_of (drop k ps)))) (rules_of (still_living es fs)) (rules_of (living es (length (born (entries_of (take (k + 1) ps)))) (entries_of (drop (k + 1) ps)))) c.loop-k.list.items list c.add_living.new.list.items at is (gen_living es t fs c.in_ok-found.found c.in_ok-found.ensures.value) c.loop-k.invariant

pub returns : goal.returns
returns c =
    let ps = c.segments-segments.result.now in
    let es = entries_of ps in
    let k = c.loop-k.k in
    let t = tree_of c.args.term.now in
    let n = length (born (entries_of (take k ps))) in
    let self : c.args.self.now ≡ es = sym c.self.view_is ∙ sym c.segments-segments.ensures.entries in
    let all = all_found t (rules_of (live es)) (rules_of (living es n (entries_of (drop k ps)))) c.loop-k.list.items (rules_end ps k n es (omega (arith, c.loop-k-test.false))) c.loop-k.invariant in
    rw (self, c.from_vec.ensures) all
