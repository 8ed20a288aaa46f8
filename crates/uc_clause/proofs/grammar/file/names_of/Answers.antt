use Rattle.std.proofs.Common.{[], ◌∷◌, ◌++◌, subst, sym, ap, ◌∙◌, take, get_or}
use Rattle.std.proofs.lemmas.List.{take_more}
use Rattle.uc_clause.specs.Meaning.{AreNames, no_names}
use Rattle.uc_clause.proofs.Gathered.{names_snoc}
use Rattle.uc_clause.proofs.grammar.file.names_of.Goals as goal

pub loop-at-init : goal.loop-at-init
loop-at-init c = subst (AreNames c.args.bytes.now c.args.tokens.now []) (sym c.new-names.ensures.items) no_names

pub loop-at-preserved : goal.loop-at-preserved
loop-at-preserved c =
    let k = get_or c.args.numbers.now c.loop-at.at-index 0 in
    let more = take_more c.args.numbers.now c.loop-at.at-index 0 c.loop-at-test.true in
    let added = names_snoc c.args.bytes.now c.args.tokens.now k c.in_ok-name_of.field-0 c.loop-at.invariant c.in_ok-name_of.ensures in
    let same = c.in_ok-push.ensures.items ∙ ap (λ p. c.loop-at.names.items ++ (c.in_ok-name_of.field-0, p) ∷ []) c.place_at.ensures in
    subst (λ ks. AreNames c.args.bytes.now c.args.tokens.now ks c.push.new.self.items) (sym more) (subst (AreNames c.args.bytes.now c.args.tokens.now (take c.loop-at.at-index c.args.numbers.now ++ k ∷ [])) (sym same) added)
