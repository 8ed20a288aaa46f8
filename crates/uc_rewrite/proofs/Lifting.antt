-- A first possible step inside of frames.
use Rattle.std.proofs.Common.{◌≡◌, ℕ, suc, ◌+◌, List, [], ◌∷◌, ◌++◌, arith, subst}
use Rattle.uc_term.specs.declared.node.Sym.{Sym}
use Rattle.uc_term.specs.Tree.{Tree, app, Trees, of_list, nodes, nodes_all}
use Rattle.uc_fact.specs.Live.{Live, Rule}
use Rattle.uc_rewrite.specs.Normalising.{FirstStep, in_arguments, FirstStepAmong, in_this, in_another}
use Rattle.uc_rewrite.specs.Walking.{Frame, plug, hole, AreNormal, IsBehind}

module _ (Greater : Tree → Tree → Type 0) (least : Sym) (live : List Live) where
  moved : (t v : Tree) (r : Rule) (p q : ℕ) → p ≡ q → FirstStep Greater least live t p r v → FirstStep Greater least live t q r v
  moved t v r p q e f = subst (λ n. FirstStep Greater least live t n r v) e f

  moved_among : (us vs : Trees) (r : Rule) (p q : ℕ) → p ≡ q → FirstStepAmong Greater least live us p r vs → FirstStepAmong Greater least live us q r vs
  moved_among us vs r p q e f = subst (λ n. FirstStepAmong Greater least live us n r vs) e f

  among_behind : (before after : List Tree) (u v : Tree) (p : ℕ) (r : Rule) → AreNormal Greater least live before → FirstStep Greater least live u p r v → FirstStepAmong Greater least live (of_list (before ++ u ∷ after)) (nodes_all (of_list before) + p) r (of_list (before ++ v ∷ after))
  among_behind [] after u v p r n f = moved_among (of_list (u ∷ after)) (of_list (v ∷ after)) r p (0 + p) (omega arith) (in_this f)
  among_behind (t ∷ before) after u v p r n f =
      moved_among (of_list (t ∷ before ++ u ∷ after)) (of_list (t ∷ before ++ v ∷ after)) r (nodes t + (nodes_all (of_list before) + p)) (nodes t + nodes_all (of_list before) + p) (omega arith) (in_another n.0 (among_behind before after u v p r n.1 f))

  pub first_in_frames : (frames : List Frame) (u v : Tree) (p : ℕ) (r : Rule) → IsBehind Greater least live frames → FirstStep Greater least live u p r v → FirstStep Greater least live (plug frames u) (hole frames + p) r (plug frames v)
  first_in_frames [] u v p r n f = moved u v r p (0 + p) (omega arith) f
  first_in_frames (frame ∷ frames) u v p r n f =
      moved (plug (frame ∷ frames) u) (plug (frame ∷ frames) v) r (hole frames + suc (nodes_all (of_list frame.before) + p)) (hole (frame ∷ frames) + p) (omega arith)
      (first_in_frames frames (app frame.head (of_list (frame.before ++ u ∷ frame.after))) (app frame.head (of_list (frame.before ++ v ∷ frame.after))) (suc (nodes_all (of_list frame.before) + p)) r n.1 (in_arguments (among_behind frame.before frame.after u v p r n.0 f)))
