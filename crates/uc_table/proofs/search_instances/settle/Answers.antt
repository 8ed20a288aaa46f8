use Rattle.std.proofs.Common.{◌≡◌, length, refl}
use Rattle.std.specs.Prelude.{slice_get, Some}
use Rattle.std.proofs.lemmas.Option.{slice_get_read}
use Rattle.uc_table.proofs.SearchSettling.{settled_for, settled_waits, of_pushed}
use Rattle.uc_table.proofs.search_instances.settle.Goals as goal

pub returns-in-Against-clause-against : goal.returns-in-Against-clause-against
returns-in-Against-clause-against c _ =
    let f = c.index-forms-number.result in
    let g : slice_get c.args.forms.now c.args.number ≡ Some f = slice_get_read c.args.forms.now (length c.args.forms.now) c.args.number f refl c.requires.number c.index-forms-number.is in
    record { form = f; form_is = g; against = c.in-Against.ensures }

pub returns-in-For-clause-settled : goal.returns-in-For-clause-settled
returns-in-For-clause-settled c _ =
    let f = c.index-forms-number.result in
    let g : slice_get c.args.forms.now c.args.number ≡ Some f = slice_get_read c.args.forms.now (length c.args.forms.now) c.args.number f refl c.requires.number c.index-forms-number.is in
    settled_for c.args.size c.args.prefix.now c.args.forms.now c.args.number c.args.assignment f g c.args.waiting.now.entries.items c.in-For.ensures

pub returns-in_ok-wait-in-Waits-clause-of : goal.returns-in_ok-wait-in-Waits-clause-of
returns-in_ok-wait-in-Waits-clause-of c =
    let f = c.index-forms-number.result in
    let g : slice_get c.args.forms.now c.args.number ≡ Some f = slice_get_read c.args.forms.now (length c.args.forms.now) c.args.number f refl c.requires.number c.index-forms-number.is in
    of_pushed c.args.size c.args.prefix.now c.args.forms.now c.args.number c.args.assignment f g c.in-Waits.cell c.args.waiting.now.entries.items c.wait.new.self.entries.items c.requires.of (c.requires.small f g) c.in_ok-wait-in-Waits.ensures.pushed

pub returns-in_ok-wait-in-Waits-clause-settled : goal.returns-in_ok-wait-in-Waits-clause-settled
returns-in_ok-wait-in-Waits-clause-settled c _ =
    let f = c.index-forms-number.result in
    let g : slice_get c.args.forms.now c.args.number ≡ Some f = slice_get_read c.args.forms.now (length c.args.forms.now) c.args.number f refl c.requires.number c.index-forms-number.is in
    settled_waits c.args.size c.args.prefix.now c.args.forms.now c.args.number c.args.assignment f g c.in-Waits.cell c.args.waiting.now.entries.items c.wait.new.self.entries.items c.in-Waits.ensures c.in_ok-wait-in-Waits.ensures.pushed
