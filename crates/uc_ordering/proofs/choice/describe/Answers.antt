use Rattle.std.proofs.Common.{◌∙◌}
use Rattle.std.proofs.lemmas.Result.{IfOk-weaker}
use Rattle.uc_ordering.proofs.Signatures.{signed_own}
use Rattle.uc_ordering.proofs.Choosing.{made_weights, made_heaviest, precedence_has, plain_chosen, marked_chosen}
use Rattle.uc_ordering.proofs.choice.describe.Goals as goal

pub weights_of-requires : goal.weights_of-requires
weights_of-requires c = rw (c.as_slice.ensures.value, c.requires.precedence) (precedence_has c.args.symbols.now c.args.signature.now c.args.words.now c.args.options.now c.requires.options (signed_own c.args.symbols.now c.args.signature.now c.requires.signature))

pub heaviest-heaviest-requires : goal.heaviest-heaviest-requires
heaviest-heaviest-requires c = rw c.as_slice-all.ensures (signed_own c.args.symbols.now c.args.signature.now c.requires.signature).has

pub returns-in-None : goal.returns-in-None
returns-in-None c =
    let weights = made_weights c.args.symbols.now c.args.signature.now c.args.words.now c.args.options.now c.requires.options c.args.precedence.items c.in_ok-weights.weights.items c.requires.precedence (rw c.as_slice.ensures.value at c.in_ok-weights.ensures) in
    rw c.in-None.is (c.spec_of.ensures ∙ plain_chosen c.args.symbols.now c.args.signature.now c.args.words.now c.args.precedence.items c.in_ok-weights.weights.items c.requires.precedence weights)

pub returns-in-Some : goal.returns-in-Some
returns-in-Some c =
    let weights = made_weights c.args.symbols.now c.args.signature.now c.args.words.now c.args.options.now c.requires.options c.args.precedence.items c.in_ok-weights.weights.items c.requires.precedence (rw c.as_slice.ensures.value at c.in_ok-weights.ensures) in
    let heavy = made_heaviest c.args.symbols.now c.args.signature.now c.args.words.now c.args.options.now c.requires.options c.heaviest-heaviest.result (rw c.as_slice-all.ensures at c.heaviest-heaviest.ensures) in
    rw c.in-Some.is (IfOk-weaker c.with_marks.result _ _ (λ spec e. e ∙ marked_chosen c.args.symbols.now c.args.signature.now c.args.words.now c.args.precedence.items c.in_ok-weights.weights.items c.requires.precedence weights c.in-Some.marks c.heaviest-heaviest.result heavy) (rw (c.deref.ensures.value, c.deref-in-Some.ensures.value) at c.with_marks.ensures))
