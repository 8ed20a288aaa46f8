-- What the reader of terms keeps from step to step.
use Rattle.std.proofs.Common.{◌≡◌, ℕ, ◌+◌, ◌<◌, ◌≤◌, List, [], ◌∷◌, ◌++◌, length, length-append, refl, sym, ap, ◌∙◌, subst, arith, append-nil, append_assoc, Bool, true, false}
use Rattle.std.proofs.Math.Seq.{set-append_seam}
use Rattle.std.proofs.lemmas.List.{map-append}
use Rattle.std.specs.Prelude.{◌≢◌, map, slice_get, slice_set, Some}
use Rattle.uc_term.specs.declared.node.Sym.{Sym}
use Rattle.uc_term.specs.declared.node.Node.TheVariants.{Var, App}
use Rattle.uc_term.specs.Tree.{Tree, var, app, none, more, count}
use Rattle.uc_term.specs.Flat.{flat, flat_all}
use Rattle.uc_term.specs.Table.{Table, Grows, IsSymbol}
use Rattle.uc_clause.specs.declared.token.Token.{Token}
use Rattle.uc_clause.specs.declared.token.Place.{Place}
use Rattle.uc_clause.specs.declared.terminal.Terminal.TheVariants.{Open, Close, Comma}
use Rattle.uc_clause.specs.declared.grammar.head.Head.TheVariants.{Variable, Functor}
use Rattle.uc_clause.specs.declared.grammar.draft.Pending.{Pending}
use Rattle.uc_clause.specs.declared.grammar.stop.Why.{Why}
use Rattle.uc_clause.specs.declared.grammar.stop.Stop.{Stop}
use Rattle.uc_clause.specs.declared.grammar.stop.Stop.TheVariants.{At, NoMemory}
use Rattle.uc_clause.specs.declared.grammar.stop.Why.TheVariants.{NoTerm, NoToken, Nodes, Arity}
use Rattle.uc_clause.specs.Terminals.{terminal_at, bytes_at, word_at, place_at}
use Rattle.uc_clause.specs.Rules.{read, stop, Stops}
use Rattle.uc_clause.specs.Parse.{Parse, variable, applied, no_more, also, leaves, leaves_all, variables, variables_all, count_all}
use Rattle.uc_clause.specs.Terms.{head_at, Term, is_variable, is_constant, is_node_too_many, is_no_term, is_one_too_many, is_followed_by_neither}
use Rattle.uc_clause.specs.Meaning.{Variables, with_name, with_names, Means, MeanAll, variable_means, functor_means, none_mean, more_mean}
use Rattle.uc_clause.specs.Drafts.{State, blank, Moves, reads_variable, reads_constant, opens_functor, goes_to_next, closes_functor, Sticks, at_no_term, at_node_too_many, at_argument_too_many, behind_argument, IsStuck, IsRead}
use Rattle.uc_clause.proofs.Ends.{some_head, some_other}
use Rattle.uc_clause.proofs.Tables.{grows_not, grows_twice}
use Rattle.uc_clause.proofs.Means.{extends_not, with_name_extends, with_names_both, mean_all_grows, size_means, count_mean_all, append, append_trees, count_append, count_trees_append, leaves_append, variables_append, flat_append, mean_append}
use Rattle.uc_clause.specs.Interning.{with_symbol, with_term, with_terms}
use Rattle.uc_clause.proofs.Interned.{with_terms_append, with_frames}
use Rattle.uc_clause.proofs.Stack.{Frame, content, leaves_of, variables_of, pending_of, applied_after, MeanFrames, mean_frames_grow, Stacked, stops_whole, stops_args, new_frame, opened, next_frame, followed, closed}

snoc_once : {A : Type 0} (xs ys : List A) (x y : A) → xs ++ x ∷ [] ≡ ys ++ y ∷ [] → (xs ≡ ys) × (x ≡ y)
snoc_once [] [] x y e = (refl, cc)
snoc_once [] (b ∷ ys) x y e = absurd (let bad : length ([] ++ x ∷ []) ≡ length ((b ∷ ys) ++ y ∷ []) = ap length e in omega (arith, length-append ys (y ∷ [])))
snoc_once (a ∷ xs) [] x y e = absurd (let bad : length ((a ∷ xs) ++ x ∷ []) ≡ length ([] ++ y ∷ []) = ap length e in omega (arith, length-append xs (x ∷ [])))
snoc_once (a ∷ xs) (b ∷ ys) x y e =
    let rest : xs ++ x ∷ [] ≡ ys ++ y ∷ [] = cc in
    let head : a ≡ b = cc in
    let both = snoc_once xs ys x y rest in
    let xs_ys : xs ≡ ys = both.0 in
    (rw (head, xs_ys) refl, both.1)

not_snoc : {A : Type 0} (ys : List A) (y : A) → [] ≡ ys ++ y ∷ [] → ⊥
not_snoc ys y e = let none : 0 ≡ length (ys ++ y ∷ []) = ap length e in omega (arith, length-append ys (y ∷ []))

-- with one more argument of the innermost frame
leaves_next : (fs : List Frame) (F : Frame) (p : Parse) → leaves_of (F ∷ fs) ++ leaves p ≡ leaves_of fs ++ F.functor ∷ leaves_all (append F.done (also p no_more))
leaves_next fs F p = rw (leaves_append F.done (also p no_more), append-nil (leaves p)) (append_assoc (leaves_of fs) (F.functor ∷ leaves_all F.done) (leaves p))

variables_next : (fs : List Frame) (F : Frame) (p : Parse) → variables_of (F ∷ fs) ++ variables p ≡ variables_of fs ++ variables_all (append F.done (also p no_more))
variables_next fs F p = rw (variables_append F.done (also p no_more), append-nil (variables p)) (append_assoc (variables_of fs) (variables_all F.done) (variables p))

module _ (bytes : List ℕ) (tokens : List Token) (from : ℕ) (seen : Variables) (table : Table) where
  abbrev places_at : List ℕ → List Place
  places_at ks = map (place_at bytes tokens) ks

  abbrev names_at : List ℕ → List (List ℕ)
  names_at ks = map (bytes_at bytes tokens) ks

  -- a term is called for, as an argument of the frames
  pub record Awaits (s : State) : Type 0 where
    pub frames : List Frame
    pub stacked : Stacked bytes tokens from frames s.at
    pub nodes : s.nodes ≡ content frames
    pub places : s.places ≡ places_at (leaves_of frames)
    pub pending : s.pending ≡ pending_of frames
    pub seen_is : s.seen ≡ with_names seen (names_at (variables_of frames))
    pub mean : MeanFrames bytes tokens s.table s.seen frames
    pub grows : Grows table s.table
    pub table_is : s.table ≡ with_frames bytes tokens table frames

  -- a term is read, as an argument of the frames
  pub record Has (s : State) : Type 0 where
    pub frames : List Frame
    pub start : ℕ
    pub parse : Parse
    pub tree : Tree
    pub stacked : Stacked bytes tokens from frames start
    pub reads : Term bytes tokens (length (content frames)) start (read parse s.at)
    pub nodes : s.nodes ≡ content frames ++ flat tree
    pub places : s.places ≡ places_at (leaves_of frames ++ leaves parse)
    pub pending : s.pending ≡ pending_of frames
    pub seen_is : s.seen ≡ with_names seen (names_at (variables_of frames ++ variables parse))
    pub mean : MeanFrames bytes tokens s.table s.seen frames
    pub means : Means bytes tokens s.table s.seen parse tree
    pub grows : Grows table s.table
    pub table_is : s.table ≡ with_term bytes tokens (with_frames bytes tokens table frames) parse

  abbrev pub KeepsAt : Bool → State → Type 0
  KeepsAt true s = Has s
  KeepsAt false s = Awaits s

  abbrev pub Keeps : State → Type 0
  Keeps s = KeepsAt s.behind_term s

  awaits : {s : State} → Keeps s → s.behind_term ≡ false → Awaits s
  awaits {s} k e = subst (λ b. KeepsAt b s) e k

  has : {s : State} → Keeps s → s.behind_term ≡ true → Has s
  has {s} k e = subst (λ b. KeepsAt b s) e k

  names_more : (ks : List ℕ) (k : ℕ) (old : Variables) → old ≡ with_names seen (names_at ks) → with_name old (bytes_at bytes tokens k) ≡ with_names seen (names_at (ks ++ k ∷ []))
  names_more ks k old e = rw (map-append (bytes_at bytes tokens) ks (k ∷ []), with_names_both seen (names_at ks) (bytes_at bytes tokens k ∷ []), e) refl

  after_variable : (old : State) (n : ℕ) → Awaits old → head_at bytes tokens old.at ≡ Variable → length old.nodes < 4096 → slice_get (with_name old.seen (bytes_at bytes tokens old.at)) n ≡ Some (bytes_at bytes tokens old.at) → Has (record old { at = old.at + 1; behind_term = true; nodes = old.nodes ++ Var n ∷ []; places = old.places ++ place_at bytes tokens old.at ∷ []; seen = with_name old.seen (bytes_at bytes tokens old.at) })
  after_variable old n a head room at = record {
    frames = a.frames;
    start = old.at;
    parse = variable old.at;
    tree = var n;
    stacked = a.stacked;
    reads = is_variable head (omega (arith, ap length a.nodes));
    nodes = ap (λ ns. ns ++ Var n ∷ []) a.nodes;
    places = ap (λ ps. ps ++ place_at bytes tokens old.at ∷ []) a.places ∙ sym (map-append (place_at bytes tokens) (leaves_of a.frames) (old.at ∷ []));
    pending = a.pending;
    seen_is = names_more (variables_of a.frames) old.at old.seen a.seen_is;
    mean = mean_frames_grow bytes tokens old.table old.table old.seen (with_name old.seen (bytes_at bytes tokens old.at)) (grows_not old.table) (with_name_extends old.seen (bytes_at bytes tokens old.at)) a.frames a.mean;
    means = variable_means at;
    grows = a.grows;
    table_is = a.table_is;
  }

  after_constant : (old : State) (f : Sym) (new : Table) → Awaits old → head_at bytes tokens old.at ≡ Functor → terminal_at bytes tokens (old.at + 1) ≢ Open → length old.nodes < 4096 → IsSymbol new f (word_at bytes tokens old.at) 0 → Grows old.table new → new ≡ with_symbol old.table (word_at bytes tokens old.at) 0 → Has (record old { at = old.at + 1; behind_term = true; nodes = old.nodes ++ App f 0 ∷ []; places = old.places ++ place_at bytes tokens old.at ∷ []; table = new })
  after_constant old f new a head alone room s g w = record {
    frames = a.frames;
    start = old.at;
    parse = applied old.at no_more;
    tree = app f none;
    stacked = a.stacked;
    reads = is_constant head (omega (arith, ap length a.nodes)) alone;
    nodes = ap (λ ns. ns ++ App f 0 ∷ []) a.nodes;
    places = ap (λ ps. ps ++ place_at bytes tokens old.at ∷ []) a.places ∙ sym (map-append (place_at bytes tokens) (leaves_of a.frames) (old.at ∷ []));
    pending = a.pending;
    seen_is = a.seen_is ∙ ap (λ ks. with_names seen (names_at ks)) (sym (append-nil (variables_of a.frames)));
    mean = mean_frames_grow bytes tokens old.table new old.seen old.seen g (extends_not old.seen) a.frames a.mean;
    means = functor_means s none_mean;
    grows = grows_twice table old.table new a.grows g;
    table_is = w ∙ ap (λ t. with_symbol t (word_at bytes tokens old.at) 0) a.table_is;
  }

  after_open : (old : State) → Awaits old → head_at bytes tokens old.at ≡ Functor → terminal_at bytes tokens (old.at + 1) ≡ Open → length old.nodes < 4096 → Awaits (record old { at = old.at + 2; nodes = old.nodes ++ blank ∷ []; places = old.places ++ place_at bytes tokens old.at ∷ []; pending = old.pending ++ record { functor = old.at; node = length old.nodes; number = 1 } ∷ [] })
  after_open old a head bracket room = record {
    frames = new_frame bytes tokens old.at ∷ a.frames;
    stacked = opened bytes tokens from a.frames old.at a.stacked head (omega (arith, ap length a.nodes)) bracket;
    nodes = ap (λ ns. ns ++ blank ∷ []) a.nodes;
    places = ap (λ ps. ps ++ place_at bytes tokens old.at ∷ []) a.places ∙ sym (map-append (place_at bytes tokens) (leaves_of a.frames) (old.at ∷ []));
    pending = let one : count_all no_more + 1 ≡ 1 = omega arith in rw (a.pending, a.nodes, one) refl;
    seen_is = a.seen_is ∙ ap (λ ks. with_names seen (names_at ks)) (sym (append-nil (variables_of a.frames)));
    mean = (none_mean, a.mean);
    grows = a.grows;
    table_is = a.table_is;
  }

  -- with one more argument of the innermost frame
  with_next : (old : State) (F : Frame) (fs : List Frame) (h : Has old) → h.frames ≡ F ∷ fs → old.table ≡ with_terms bytes tokens (with_frames bytes tokens table fs) (append F.done (also h.parse no_more))
  with_next old F fs h e = h.table_is ∙ ap (λ gs. with_term bytes tokens (with_frames bytes tokens table gs) h.parse) e ∙ sym (with_terms_append bytes tokens (with_frames bytes tokens table fs) F.done (also h.parse no_more))

  module _ (old : State) (rest : List Pending) (top : Pending) (pends : old.pending ≡ rest ++ top ∷ []) where
    -- by the frames of what the reader has
    next_at : (frames : List Frame) (h : Has old) → h.frames ≡ frames → terminal_at bytes tokens old.at ≡ Comma → top.number < 255 → Awaits (record old { at = old.at + 1; behind_term = false; pending = rest ++ record top { number = top.number + 1 } ∷ [] })
    next_at [] h e comma few = absurd (not_snoc rest top (ap pending_of (sym e) ∙ sym h.pending ∙ pends))
    next_at (F ∷ fs) h e comma few =
        let same : pending_of fs ++ record { functor = F.functor; node = length (content fs); number = count_all F.done + 1 } ∷ [] ≡ rest ++ top ∷ [] = ap pending_of (sym e) ∙ sym h.pending ∙ pends in
        let both = snoc_once (pending_of fs) rest (record { functor = F.functor; node = length (content fs); number = count_all F.done + 1 }) top same in
        let number : top.number ≡ count_all F.done + 1 = ap (λ (p : Pending). p.number) (sym both.1) in
        let stacked : Stacked bytes tokens from (F ∷ fs) h.start = subst (λ gs. Stacked bytes tokens from gs h.start) e h.stacked in
        let reads : Term bytes tokens (length (content (F ∷ fs))) h.start (read h.parse old.at) = subst (λ gs. Term bytes tokens (length (content gs)) h.start (read h.parse old.at)) e h.reads in
        let mean : MeanFrames bytes tokens old.table old.seen (F ∷ fs) = subst (λ gs. MeanFrames bytes tokens old.table old.seen gs) e h.mean in
        let more_of : count_all (append F.done (also h.parse no_more)) + 1 ≡ top.number + 1 = omega (arith, count_append F.done (also h.parse no_more), number) in
        record {
          frames = next_frame bytes tokens F h.parse h.tree ∷ fs;
          stacked = followed bytes tokens from F fs h.start old.at h.parse h.tree stacked reads (sym (size_means h.means)) comma (omega (arith, number));
          nodes = h.nodes ∙ ap (λ gs. content gs ++ flat h.tree) e ∙ rw (flat_append F.trees (more h.tree none), append-nil (flat h.tree)) (append_assoc (content fs) (blank ∷ flat_all F.trees) (flat h.tree));
          places = h.places ∙ ap (λ gs. places_at (leaves_of gs ++ leaves h.parse)) e ∙ ap places_at (leaves_next fs F h.parse);
          pending = let functor : F.functor ≡ top.functor = ap (λ (p : Pending). p.functor) both.1 in let node : length (content fs) ≡ top.node = ap (λ (p : Pending). p.node) both.1 in rw (more_of, functor, node, both.0) refl;
          seen_is = h.seen_is ∙ ap (λ gs. with_names seen (names_at (variables_of gs ++ variables h.parse))) e ∙ ap (λ ks. with_names seen (names_at ks)) (variables_next fs F h.parse);
          mean = (mean_append mean.0 (more_mean h.means none_mean), mean.1);
          grows = h.grows;
          table_is = with_next old F fs h e;
        }

    close_at : (frames : List Frame) (h : Has old) (f : Sym) (new : Table) → h.frames ≡ frames → terminal_at bytes tokens old.at ≡ Close → IsSymbol new f (word_at bytes tokens top.functor) top.number → Grows old.table new → new ≡ with_symbol old.table (word_at bytes tokens top.functor) top.number → Has (record old { at = old.at + 1; nodes = slice_set old.nodes top.node (App f top.number); pending = rest; table = new })
    close_at [] h f new e close s g w = absurd (not_snoc rest top (ap pending_of (sym e) ∙ sym h.pending ∙ pends))
    close_at (F ∷ fs) h f new e close s g w =
        let same : pending_of fs ++ record { functor = F.functor; node = length (content fs); number = count_all F.done + 1 } ∷ [] ≡ rest ++ top ∷ [] = ap pending_of (sym e) ∙ sym h.pending ∙ pends in
        let both = snoc_once (pending_of fs) rest (record { functor = F.functor; node = length (content fs); number = count_all F.done + 1 }) top same in
        let number : top.number ≡ count_all F.done + 1 = ap (λ (p : Pending). p.number) (sym both.1) in
        let functor : top.functor ≡ F.functor = ap (λ (p : Pending). p.functor) (sym both.1) in
        let node : top.node ≡ length (content fs) = ap (λ (p : Pending). p.node) (sym both.1) in
        let stacked : Stacked bytes tokens from (F ∷ fs) h.start = subst (λ gs. Stacked bytes tokens from gs h.start) e h.stacked in
        let reads : Term bytes tokens (length (content (F ∷ fs))) h.start (read h.parse old.at) = subst (λ gs. Term bytes tokens (length (content gs)) h.start (read h.parse old.at)) e h.reads in
        let mean : MeanFrames bytes tokens old.table old.seen (F ∷ fs) = subst (λ gs. MeanFrames bytes tokens old.table old.seen gs) e h.mean in
        let counted : top.number ≡ count (append_trees F.trees (more h.tree none)) = omega (arith, number, count_mean_all mean.0, count_trees_append F.trees (more h.tree none)) in
        let all : MeanAll bytes tokens old.table old.seen (append F.done (also h.parse no_more)) (append_trees F.trees (more h.tree none)) = mean_append mean.0 (more_mean h.means none_mean) in
        let spelled : old.nodes ≡ content fs ++ blank ∷ (flat_all F.trees ++ flat h.tree) = h.nodes ∙ ap (λ gs. content gs ++ flat h.tree) e ∙ append_assoc (content fs) (blank ∷ flat_all F.trees) (flat h.tree) in
        record {
          frames = fs;
          start = F.functor;
          parse = applied_after F (also h.parse no_more);
          tree = app f (append_trees F.trees (more h.tree none));
          stacked = stacked.0;
          reads = closed bytes tokens from F fs h.start old.at h.parse stacked reads close;
          nodes = rw (spelled, node, counted, set-append_seam (content fs) blank (flat_all F.trees ++ flat h.tree) (App f (count (append_trees F.trees (more h.tree none)))), flat_append F.trees (more h.tree none), append-nil (flat h.tree)) refl;
          places = h.places ∙ ap (λ gs. places_at (leaves_of gs ++ leaves h.parse)) e ∙ ap places_at (leaves_next fs F h.parse);
          pending = sym both.0;
          seen_is = h.seen_is ∙ ap (λ gs. with_names seen (names_at (variables_of gs ++ variables h.parse))) e ∙ ap (λ ks. with_names seen (names_at ks)) (variables_next fs F h.parse);
          mean = mean_frames_grow bytes tokens old.table new old.seen old.seen g (extends_not old.seen) fs mean.1;
          means = functor_means (rw (functor, counted) at s) (mean_all_grows bytes tokens old.table new old.seen old.seen g (extends_not old.seen) all);
          grows = grows_twice table old.table new h.grows g;
          table_is =
              let arguments : count_all (append F.done (also h.parse no_more)) ≡ top.number = omega (arith, number, count_append F.done (also h.parse no_more)) in
              w ∙ rw (functor, arguments) (ap (λ t. with_symbol t (word_at bytes tokens F.functor) top.number) (with_next old F fs h e));
        }

  pub keeps : (old new : State) → Keeps old → Moves bytes tokens old new → Keeps new
  keeps old new k (reads_variable n behind head room at e) =
      let at_seen : slice_get (with_name old.seen (bytes_at bytes tokens old.at)) n ≡ Some (bytes_at bytes tokens old.at) = subst (λ (s : State). slice_get s.seen n ≡ Some (bytes_at bytes tokens old.at)) e at in
      subst Keeps (sym e) (after_variable old n (awaits k behind) head room at_seen)
  keeps old new k (reads_constant f t behind head alone room s g w e) = subst Keeps (sym e) (after_constant old f t (awaits k behind) head alone room s g w)
  keeps old new k (opens_functor behind head bracket room e) = subst Keeps (sym e) (subst (λ b. KeepsAt b (record old { at = old.at + 2; nodes = old.nodes ++ blank ∷ []; places = old.places ++ place_at bytes tokens old.at ∷ []; pending = old.pending ++ record { functor = old.at; node = length old.nodes; number = 1 } ∷ [] })) (sym behind) (after_open old (awaits k behind) head bracket room))
  keeps old new k (goes_to_next rest top behind pends comma few e) = let h = has k behind in subst Keeps (sym e) (next_at old rest top pends h.frames h refl comma few)
  keeps old new k (closes_functor rest top f t behind pends close s g w e) = let h = has k behind in subst Keeps (sym e) (subst (λ b. KeepsAt b (record old { at = old.at + 1; nodes = slice_set old.nodes top.node (App f top.number); pending = rest; table = t })) (sym behind) (close_at old rest top pends h.frames h f t refl close s g w))

  argument_stops : (old : State) (rest : List Pending) (top : Pending) → old.pending ≡ rest ++ top ∷ [] → (frames : List Frame) (h : Has old) → h.frames ≡ frames → terminal_at bytes tokens old.at ≡ Comma → 255 ≤ top.number → Term bytes tokens 0 from (stop Arity top.functor)
  argument_stops old rest top pends [] h e comma many = absurd (not_snoc rest top (ap pending_of (sym e) ∙ sym h.pending ∙ pends))
  argument_stops old rest top pends (F ∷ fs) h e comma many =
      let same : pending_of fs ++ record { functor = F.functor; node = length (content fs); number = count_all F.done + 1 } ∷ [] ≡ rest ++ top ∷ [] = ap pending_of (sym e) ∙ sym h.pending ∙ pends in
      let both = snoc_once (pending_of fs) rest (record { functor = F.functor; node = length (content fs); number = count_all F.done + 1 }) top same in
      let number : top.number ≡ count_all F.done + 1 = ap (λ (p : Pending). p.number) (sym both.1) in
      let functor : F.functor ≡ top.functor = ap (λ (p : Pending). p.functor) both.1 in
      let stacked : Stacked bytes tokens from (F ∷ fs) h.start = subst (λ gs. Stacked bytes tokens from gs h.start) e h.stacked in
      let reads : Term bytes tokens (length (content (F ∷ fs))) h.start (read h.parse old.at) = subst (λ gs. Term bytes tokens (length (content gs)) h.start (read h.parse old.at)) e h.reads in
      subst (λ k. Term bytes tokens 0 from (stop Arity k)) functor (stops_args bytes tokens from F fs h.start Arity F.functor stacked (is_one_too_many reads comma (omega (arith, number))))

  behind_stops : (old : State) (rest : List Pending) (top : Pending) → old.pending ≡ rest ++ top ∷ [] → (frames : List Frame) (h : Has old) → h.frames ≡ frames → terminal_at bytes tokens old.at ≢ Close → terminal_at bytes tokens old.at ≢ Comma → Term bytes tokens 0 from (stop NoToken old.at)
  behind_stops old rest top pends [] h e close comma = absurd (not_snoc rest top (ap pending_of (sym e) ∙ sym h.pending ∙ pends))
  behind_stops old rest top pends (F ∷ fs) h e close comma =
      let stacked : Stacked bytes tokens from (F ∷ fs) h.start = subst (λ gs. Stacked bytes tokens from gs h.start) e h.stacked in
      let reads : Term bytes tokens (length (content (F ∷ fs))) h.start (read h.parse old.at) = subst (λ gs. Term bytes tokens (length (content gs)) h.start (read h.parse old.at)) e h.reads in
      stops_args bytes tokens from F fs h.start NoToken old.at stacked (is_followed_by_neither reads close comma)

  -- where the reader can't go on, the whole term stops
  pub sticks : (old : State) (why : Why) (k : ℕ) → Keeps old → Sticks bytes tokens old why k → Term bytes tokens 0 from (stop why k)
  sticks old _ _ k (at_no_term behind head) = let a = awaits k behind in stops_whole bytes tokens from a.frames old.at NoTerm old.at a.stacked (is_no_term head)
  sticks old _ _ k (at_node_too_many behind head full) = let a = awaits k behind in stops_whole bytes tokens from a.frames old.at Nodes old.at a.stacked (is_node_too_many head (omega (arith, ap length a.nodes)))
  sticks old _ _ k (at_argument_too_many rest top behind pends comma many) = let h = has k behind in argument_stops old rest top pends h.frames h refl comma many
  sticks old _ _ k (behind_argument rest top behind pends close comma) = let h = has k behind in behind_stops old rest top pends h.frames h refl close comma

  whole_at : (s : State) (frames : List Frame) (h : Has s) → h.frames ≡ frames → s.pending ≡ [] → IsRead bytes tokens from seen table s
  whole_at s (F ∷ fs) h e empty = absurd (not_snoc (pending_of fs) _ (sym empty ∙ h.pending ∙ ap pending_of e))
  whole_at s [] h e empty = record {
    parse = h.parse;
    tree = h.tree;
    reads =
        let start : h.start ≡ from = subst (λ gs. Stacked bytes tokens from gs h.start) e h.stacked in
        subst (λ a. Term bytes tokens 0 a (read h.parse s.at)) start (subst (λ gs. Term bytes tokens (length (content gs)) h.start (read h.parse s.at)) e h.reads);
    nodes = h.nodes ∙ ap (λ gs. content gs ++ flat h.tree) e;
    places = h.places ∙ ap (λ gs. places_at (leaves_of gs ++ leaves h.parse)) e;
    seen_is = h.seen_is ∙ ap (λ gs. with_names seen (names_at (variables_of gs ++ variables h.parse))) e;
    means = h.means;
    table_is = h.table_is ∙ ap (λ gs. with_term bytes tokens (with_frames bytes tokens table gs) h.parse) e;
  }

  -- where no functor is pending behind a term, that is the whole term
  pub whole : (s : State) → Keeps s → s.behind_term ≡ true → s.pending ≡ [] → IsRead bytes tokens from seen table s
  whole s k behind empty = let h = has k behind in whole_at s h.frames h refl empty

-- where the innermost pending functor stands
module _ (bytes : List ℕ) (tokens : List Token) (from : ℕ) (seen : Variables) (table : Table) where
  within_at : (s : State) (rest : List Pending) (top : Pending) (start : ℕ) (frames : List Frame) → Stacked bytes tokens from frames start → s.pending ≡ pending_of frames → length (content frames) ≤ length s.nodes → s.pending ≡ rest ++ top ∷ [] → (top.node < length s.nodes) × (top.functor < length tokens)
  within_at s rest top start [] stacked p small e = absurd (not_snoc rest top (sym p ∙ e))
  within_at s rest top start (F ∷ fs) stacked p small e =
      let both = snoc_once (pending_of fs) rest (record { functor = F.functor; node = length (content fs); number = count_all F.done + 1 }) top (sym p ∙ e) in
      let functor : top.functor ≡ F.functor = ap (λ (p : Pending). p.functor) (sym both.1) in
      let node : top.node ≡ length (content fs) = ap (λ (p : Pending). p.node) (sym both.1) in
      (omega (arith, node, length-append (content fs) (blank ∷ flat_all F.trees)), omega (arith, functor, some_head bytes tokens F.functor (λ other. let bad = stacked.2 in cc)))

  pub pending_within : (s : State) (b : Bool) → KeepsAt bytes tokens from seen table b s → (rest : List Pending) (top : Pending) → s.pending ≡ rest ++ top ∷ [] → (top.node < length s.nodes) × (top.functor < length tokens)
  pending_within s true k rest top e = within_at s rest top k.start k.frames k.stacked k.pending (omega (arith, ap length k.nodes, length-append (content k.frames) (flat k.tree))) e
  pending_within s false k rest top e = within_at s rest top s.at k.frames k.stacked k.pending (omega (arith, ap length k.nodes)) e

-- each step goes ahead among the tokens
pub goes_ahead : (bytes : List ℕ) (tokens : List Token) (old new : State) → Moves bytes tokens old new → (old.at < new.at) × (old.at < length tokens)
goes_ahead bytes tokens old new (reads_variable n behind head room at e) = (omega (arith, ap (λ (s : State). s.at) e), some_head bytes tokens old.at (λ none. cc))
goes_ahead bytes tokens old new (reads_constant f t behind head alone room s g w e) = (omega (arith, ap (λ (s : State). s.at) e), some_head bytes tokens old.at (λ none. cc))
goes_ahead bytes tokens old new (opens_functor behind head bracket room e) = (omega (arith, ap (λ (s : State). s.at) e), some_head bytes tokens old.at (λ none. cc))
goes_ahead bytes tokens old new (goes_to_next rest top behind pends comma few e) = (omega (arith, ap (λ (s : State). s.at) e), some_other bytes tokens old.at Comma comma (λ none. cc))
goes_ahead bytes tokens old new (closes_functor rest top f t behind pends close s g w e) = (omega (arith, ap (λ (s : State). s.at) e), some_other bytes tokens old.at Close close (λ none. cc))

pub stuck_stops : (bytes : List ℕ) (tokens : List Token) (from : ℕ) (seen : Variables) (table : Table) (old : State) (err : Stop) → Keeps bytes tokens from seen table old → IsStuck bytes tokens old err → Stops (Term bytes tokens 0 from) err
stuck_stops bytes tokens from seen table old (At why k) keeps stuck = sticks bytes tokens from seen table old why k keeps stuck
stuck_stops bytes tokens from seen table old NoMemory keeps stuck = tt
