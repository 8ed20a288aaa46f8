use Rattle.std.proofs.Common.{◌∷◌, [], length, length-append, sym, ap, ◌∙◌, arith}
use Rattle.uc_clause.specs.Tokens.{place_of}
use Rattle.uc_certificate.specs.FactNames.{names_of}
use Rattle.uc_certificate.proofs.FactsRead.{behind_words, taken_none, taken_all, taken_more, unknown_is, unknown_at}
use Rattle.uc_certificate.proofs.fact_names.numbers_in.Goals as goal

pub names-init : goal.names-init
names-init c = record {
  taken = λ words all h. rw c.new-numbers.ensures (taken_none (names_of c.args.names.now.keys) c.args.line.now c.in-Some.first.now (behind_words c.args.line.now c.in-Some.first.now c.in-Some.ensures.cases) words all h);
  many = omega (arith, ap length c.new-numbers.ensures, c.in-Some.ensures.cases.2);
}

pub returns-in_default-number_of-clause-unknown : goal.returns-in_default-number_of-clause-unknown
returns-in_default-number_of-clause-unknown c =
    let missing = sym c.number_of.ensures ∙ c.in_default-number_of.is in
    rw c.unknown.ensures (λ words all h.
    let t = c.names.invariant.taken words all h in
    (length t.done, unknown_is (names_of c.args.names.now.keys) words c.names.rest.now c.names.numbers t c.in-Some-split_name.name.now c.in-Some-split_name.behind.now c.in-Some-split_name.ensures missing, ap (place_of c.args.text.now) (unknown_at (names_of c.args.names.now.keys) words c.names.rest.now c.names.numbers t c.in-Some-split_name.name.now c.in-Some-split_name.behind.now c.in-Some-split_name.ensures missing c.args.text.now c.args.line.now c.args.at h)))

pub names-preserved : goal.names-preserved
names-preserved c = record {
  taken = λ words all h. rw c.in_ok-push.ensures.ok (taken_more (names_of c.args.names.now.keys) words c.names.rest.now c.names.numbers (c.names.invariant.taken words all h) c.in-Some-split_name.name.now c.in-Some-split_name.behind.now c.in-Some-split_name.ensures c.in-Some-number_of.number (sym c.number_of.ensures ∙ c.in-Some-number_of.is));
  many = omega (arith, c.names.invariant.many, ap length c.in_ok-push.ensures.ok, length-append c.names.numbers (c.in-Some-number_of.number ∷ []), ap length c.in-Some-split_name.ensures.is, length-append c.in-Some-split_name.name.now c.in-Some-split_name.behind.now);
}

pub returns-clause-numbers : goal.returns-clause-numbers
returns-clause-numbers c words all h = taken_all (names_of c.args.names.now.keys) words c.names.rest.now c.names.numbers (c.names.invariant.taken words all h) c.in_default-split_name.ensures
