use Rattle.std.proofs.Common.{◌≡◌, ◌+◌, ◌≤◌, ap, length, rules, arith}
use Rattle.uc_table.specs.SearchReads.{links_of, AreRowsOf}
use Rattle.uc_table.proofs.SearchReads.{few_links, reads_are}
use Rattle.uc_table.proofs.search_reads.kept_reads.Goals as goal

pub overflow_cast-width : goal.overflow_cast-width
overflow_cast-width c =
    let e : c.in-Some.links.items ≡ links_of c.args.size c.args.steps.now = rw c.in-Some.is at c.in_ok-links.ensures in
    let s : length c.in-Some.links.items ≤ length c.args.steps.now = few_links c.args.size c.args.steps.now c.in-Some.links.items e in
    let k : c.len.result ≡ length c.in-Some.links.items = search rules in
    omega (arith, s, k, c.requires.few)

pub overflow_add-width : goal.overflow_add-width
overflow_add-width c =
    let e : c.in-Some.links.items ≡ links_of c.args.size c.args.steps.now = rw c.in-Some.is at c.in_ok-links.ensures in
    let s : length c.in-Some.links.items ≤ length c.args.steps.now = few_links c.args.size c.args.steps.now c.in-Some.links.items e in
    let k : c.len.result ≡ length c.in-Some.links.items = search rules in
    omega (arith, s, k, c.requires.few)

pub returns : goal.returns
returns c =
    let e : c.in-Some.links.items ≡ links_of c.args.size c.args.steps.now = rw c.in-Some.is at c.in_ok-links.ensures in
    let k : c.len.result ≡ length c.in-Some.links.items = search rules in
    let r : AreRowsOf c.args.size c.args.steps.now (length (links_of c.args.size c.args.steps.now) + 2) c.min.result c.in-Some-2.rows.items = rw c.in-Some-2.is at c.in_ok-rows.ensures in
    reads_are c.args.size c.args.steps.now (record { width = c.len.result + 2; links = c.in-Some.links; rows = c.in-Some-2.rows }) c.min.result e (ap (λ n. n + 2) k) r
