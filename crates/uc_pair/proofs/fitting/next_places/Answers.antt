use Rattle.std.proofs.Common.{◌≡◌, Bool, true, false, IsTrue}
use Rattle.uc_term.proofs.Terms.{whole_one}
use Rattle.uc_pair.proofs.Walking.{within, at_var, at_other_var, at_head, at_clash}
use Rattle.uc_pair.proofs.fitting.next_places.Goals as goal

clashed : (b : Bool) → b ≡ false → IsTrue b → ⊥
clashed true e h = cc
clashed false e h = cc

pub end_of-requires-clause-whole : goal.end_of-requires-clause-whole
end_of-requires-clause-whole c = whole_one c.args.t.now c.requires.whole_t

pub end_of-requires-clause-within : goal.end_of-requires-clause-within
end_of-requires-clause-within c = within c.args.s.now c.args.t.now c.requires.whole_s c.requires.whole_t c.args.p c.args.q c.requires.within c.requires.meets

pub end_of-requires-then-is_var-clause-whole : goal.end_of-requires-then-is_var-clause-whole
end_of-requires-then-is_var-clause-whole c = whole_one c.args.s.now c.requires.whole_s

pub returns-in-Var : goal.returns-in-Var
returns-in-Var c = at_var c.args.s.now c.args.t.now c.requires.whole_s c.requires.whole_t c.args.p c.args.q c.requires.within c.requires.meets _ c.in-Var.field-0 c.in-Var.is c.end_of.result c.end_of.ensures.end

pub returns-then-is_var : goal.returns-then-is_var
returns-then-is_var c =
    let v = c.is_var.ensures.is c.if-is_var.true in
    at_other_var c.args.s.now c.args.t.now c.requires.whole_s c.requires.whole_t c.args.p c.args.q c.requires.within c.requires.meets _ v.0 v.1 c.end_of-then-is_var.result c.end_of-then-is_var.ensures.end c.end_of-then-is_var.ensures.in_list

pub returns-then-is_head : goal.returns-then-is_head
returns-then-is_head c = at_head c.args.s.now c.args.t.now c.requires.whole_s c.requires.whole_t c.args.p c.args.q c.requires.within c.requires.meets _ c.in-App.f c.in-App.n c.in-App.is (c.is_head.ensures.0 c.if-is_head.true)

pub returns-else-is_head : goal.returns-else-is_head
returns-else-is_head c = at_clash c.args.s.now c.args.t.now c.requires.whole_s c.requires.whole_t c.args.p c.args.q c.requires.within c.requires.meets _ c.in-App.f c.in-App.n c.in-App.is (c.is_var.ensures.not c.if-is_var.false) (λ e. clashed c.is_head.result c.if-is_head.false (c.is_head.ensures.1 e))
