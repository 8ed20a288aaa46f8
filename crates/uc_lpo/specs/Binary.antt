-- Three laws of the lexicographic path order for a symbol with two arguments.
use Rattle.std.specs.Prelude.{ℕ}
use Rattle.uc_term.specs.declared.node.Sym.{Sym}
use Rattle.uc_term.specs.Tree.{Tree, app, none, more}
use Rattle.uc_lpo.specs.PathOrder.{PathOrder, by_argument, by_arguments, is_it, is_greater, a_later, no_more, one_more, differ, agree}

module _ (rank : Sym → ℕ) (above : ℕ → ℕ → Type 0) (f : Sym) where
  abbrev two : Tree → Tree → Tree
  two x y = app f (more x (more y none))

  pub associates : (x y z : Tree) → PathOrder rank above (two (two x y) z) (two x (two y z))
  associates x y z =
      let over_x : PathOrder rank above (two (two x y) z) x = by_argument (is_greater (by_argument is_it)) in
      let over_y : PathOrder rank above (two (two x y) z) y = by_argument (is_greater (by_argument (a_later is_it))) in
      let over_z : PathOrder rank above (two (two x y) z) z = by_argument (a_later is_it) in
      let over_yz : PathOrder rank above (two (two x y) z) (two y z) = by_arguments (one_more over_y (one_more over_z no_more)) (differ (by_argument (a_later is_it))) in
      by_arguments (one_more over_x (one_more over_yz no_more)) (differ (by_argument is_it))

  pub commutes : (x y : Tree) → PathOrder rank above x y → PathOrder rank above (two x y) (two y x)
  commutes x y l = by_arguments (one_more (by_argument (is_greater l)) (one_more (by_argument is_it) no_more)) (differ l)

  pub exchanges : (x y z : Tree) → PathOrder rank above x y → PathOrder rank above (two x (two y z)) (two y (two x z))
  exchanges x y z l =
      let over_y : PathOrder rank above (two x (two y z)) y = by_argument (is_greater l) in
      let over_z : PathOrder rank above (two x (two y z)) z = by_argument (a_later (is_greater (by_argument (a_later is_it)))) in
      let over_xz : PathOrder rank above (two x (two y z)) (two x z) = by_arguments (one_more (by_argument is_it) (one_more over_z no_more)) (agree (differ (by_argument (a_later is_it)))) in
      by_arguments (one_more over_y (one_more over_xz no_more)) (differ l)
