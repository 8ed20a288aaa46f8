use Rattle.std.proofs.Common.{Result, Ok, Err, OnOk, get_or, arith}
use Rattle.uc_unify.proofs.Fitting.{fits_some}
use Rattle.uc_unify.proofs.Writing.{written_var, written_app}
use Rattle.uc_unify.proofs.solution.write_node.Goals as goal

on_ok : {A : Type 0} {E : Type 0} (r : Result A E) {P Q : Type 0} → (P → Q) → OnOk r P → OnOk r Q
on_ok (Ok a) h p = h p
on_ok (Err e) h p = p

pub returns-in-Var : goal.returns-in-Var
returns-in-Var c = written_var c.args.nodes.now c.args.classes.now c.requires.whole c.requires.classes c.args.place c.args.terms c.requires.fits c.requires.some c.args.list.now.items c.push.new.self.items c.args.pending.now.items c.push_terms.new.pending.items (get_or c.args.ends.now c.args.place 0) (c.requires.ends.ends_are c.args.place (omega arith) (fits_some c.args.nodes.now c.requires.whole c.args.place c.args.terms c.requires.fits c.requires.some)) c.in_ok-push_terms.ensures _ c.in-Var.field-0 c.in-Var.is c.in_ok-push.ensures.items

pub returns-in-App : goal.returns-in-App
returns-in-App c = on_ok c.push_terms-in-App.result (λ o. written_app c.args.nodes.now c.args.classes.now c.requires.whole c.requires.classes c.args.place c.args.terms c.requires.fits c.requires.some c.args.list.now.items c.push.new.self.items c.args.pending.now.items c.push_terms.new.pending.items (get_or c.args.ends.now c.args.place 0) (c.requires.ends.ends_are c.args.place (omega arith) (fits_some c.args.nodes.now c.requires.whole c.args.place c.args.terms c.requires.fits c.requires.some)) c.in_ok-push_terms.ensures _ c.in-App.field-0 c.in-App.arity c.push_terms-in-App.new.pending.items c.in-App.is c.in_ok-push.ensures.items o) c.push_terms-in-App.ensures
