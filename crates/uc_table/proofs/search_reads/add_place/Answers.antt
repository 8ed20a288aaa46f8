use Rattle.std.proofs.Common.{◌≡◌, ◌∙◌, ap, ◌+◌, ◌-◌, ◌≤◌, length, take, drop, arith}
use Rattle.uc_table.specs.Algebras.{place_of}
use Rattle.uc_table.proofs.SearchReads.{added_variable, added_apply}
use Rattle.uc_table.proofs.search_reads.add_place.Goals as goal

pub returns-in-Variable-clause-added : goal.returns-in-Variable-clause-added
returns-in-Variable-clause-added c =
    rw c.in-Variable.is (added_variable c.args.size c.args.assignment c.args.top c.args.stack.now c.args.row.now.items c.requires.room c.requires.within c.requires.some c.requires.live c.in-Variable.unit)

pub returns-in_ok-push-in-Apply-clause-added : goal.returns-in_ok-push-in-Apply-clause-added
returns-in_ok-push-in-Apply-clause-added c =
    let top = c.args.top in
    let n = c.in-Apply.arguments in
    let stack = c.args.stack.now in
    let w : top + n ≤ length stack = omega arith in
    let m : top + n - top ≡ n = omega arith in
    let e : c.place_of.result ≡ place_of c.args.size (take n (drop top stack)) = c.place_of.ensures.place ∙ ap (λ k. place_of c.args.size (take k (drop top stack))) m in
    rw c.in-Apply.is (added_apply c.args.size c.args.assignment top stack c.args.row.now.items c.requires.room c.requires.within c.requires.some c.requires.live c.in-Apply.first n c.place_of.result c.push.new.self.items w e c.in_ok-push-in-Apply.ensures.items)
