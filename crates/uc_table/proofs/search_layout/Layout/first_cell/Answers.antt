use Rattle.std.proofs.Common.{◌≡◌, ◌∙◌, ap, ◌≤◌, ◌<◌, length, rules, arith, get_or, Some}
use Rattle.std.proofs.lemmas.Grind.{get_or_default_zero}
use Rattle.uc_table.proofs.SearchLayouts.{beyond, no_number, other_symbol, this_symbol}
use Rattle.uc_table.proofs.search_layout.Layout.first_cell.Goals as goal

pub returns-then-place-len : goal.returns-then-place-len
returns-then-place-len c = let l : length c.args.self.now.numbers.items ≤ c.args.f.0 = search rules in beyond c.args.symbols.now c.args.signature.now c.args.self.now c.requires c.args.f l

pub returns-then-number-signature : goal.returns-then-number-signature
returns-then-number-signature c =
    let n : c.index.result.now ≡ get_or c.args.self.now.numbers.items c.args.f.0 0 = grind (arith, get_or_default_zero) in
    no_number c.args.symbols.now c.args.signature.now c.args.self.now c.requires c.args.f c.index.result.now n c.if-number-signature.true

pub returns-then-signature-number : goal.returns-then-signature-number
returns-then-signature-number c =
    let n : c.index.result.now ≡ get_or c.args.self.now.numbers.items c.args.f.0 0 = grind (arith, get_or_default_zero) in
    other_symbol c.args.symbols.now c.args.signature.now c.args.self.now c.requires c.args.f c.index.result.now (record { 0 = 0 }) n c.if-signature-number.true

pub returns : goal.returns
returns c =
    let n : c.index.result.now ≡ get_or c.args.self.now.numbers.items c.args.f.0 0 = grind (arith, get_or_default_zero) in
    let l : c.index.result.now < length c.args.self.now.firsts.items = omega (arith, c.requires.firsts.as_many) in
    let m : c.index-2.result.now ≡ get_or c.args.self.now.firsts.items c.index.result.now 0 = grind (arith, get_or_default_zero) in
    ap Some m ∙ this_symbol c.args.symbols.now c.args.signature.now c.args.self.now c.requires c.args.f c.index.result.now (record { 0 = 0 }) n c.if-number-signature.false c.if-signature-number.false
