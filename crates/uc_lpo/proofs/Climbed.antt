-- From the first place where two lists differ, level by level, up to the roots.
use Rattle.std.proofs.Common.{◌≡◌, ◌≢◌, ℕ, ◌+◌, ◌-◌, ◌<◌, ◌≤◌, List, [], ◌∷◌, ◌++◌, append-nil, length, take, drop, get_or, map, refl, sym, ap, ◌∙◌, subst, arith, ◌⊎◌, inl, inr}
use Rattle.std.proofs.lemmas.List.{take-append-drop}
use Rattle.std.proofs.Math.Seq.{take-append_seam}
use Rattle.uc_term.specs.declared.node.Sym.{Sym}
use Rattle.uc_term.specs.declared.node.Node.{Node}
use Rattle.uc_term.specs.declared.node.Node.TheVariants.{Var, App}
use Rattle.uc_term.specs.Tree.{Tree, app, Trees, none, more, of_list, nodes, nodes_all, apply}
use Rattle.uc_term.specs.Flat.{flat, flat_all, spelled, tree_of, trees_of, first_of_trees, IsWhole, AreWhole}
use Rattle.uc_term.specs.Code.{tree_of-flat}
use Rattle.uc_term.proofs.Terms.{whole-drop, whole-flat, whole_one, nodes_whole, nodes_pos, length-flat, length-flat_all, trees_of-flat_all}
use Rattle.uc_term.proofs.Ahead.{join, flat_all-join}
use Rattle.uc_order.specs.VarOrders.{Classes, IsHigher, representative}
use Rattle.uc_order.specs.Renamed.{renamed_node, renamed_nodes}
use Rattle.uc_order.proofs.Renaming.{renaming, length-renamed, renamed_is_whole, renamed_tree}
use Rattle.uc_order.proofs.Reading.{get_or-renamed, drop-renamed, spelled-renamed, renamed_of_list, take-map, nodes-renamed, nodes_all-renamed, length_spelled_at}
use Rattle.uc_order.proofs.Climbing.{Begins, begins, Front, front_none, front_var, front_app, Around, around, around_ends, same_node, node_at, front_from, at_root, differ_at, same_front}
use Rattle.uc_lpo.specs.declared.compare.Rest.{Rest}
use Rattle.uc_lpo.specs.PathOrder.{PathOrder, SomeReaches, Exceeds}
use Rattle.uc_lpo.specs.Ranks.{rank_of}
use Rattle.uc_lpo.specs.Rests.{Says, IsWithin, Goes}
use Rattle.uc_lpo.specs.Shown.{shown, shown_all}
use Rattle.uc_lpo.specs.Laws.{irreflexive}
use Rattle.uc_lpo.specs.Higher.{higher_transitive, higher_irreflexive}
use Rattle.uc_lpo.proofs.Passes.{join-of_list}
use Rattle.uc_lpo.proofs.Rests.{within_more}
use Rattle.uc_lpo.proofs.Decide.{over_later}
use Rattle.uc_lpo.proofs.Fronts.{level_says}

-- what begins at a place is a whole term
pub whole_at : (ns : List Node) (p e : ℕ) → Begins ns p e → IsWhole (take (e - p) (drop p ns))
whole_at ns p e b = let P : List Node → Type 0 = IsWhole in subst P (sym b.nodes_are) (whole-flat (tree_of (drop p ns)))

pub long_at : (ns : List Node) (p e : ℕ) → Begins ns p e → length (take (e - p) (drop p ns)) ≡ e - p
long_at ns p e b = omega (arith, ap length b.nodes_are, length-flat (tree_of (drop p ns)), b.ends)

-- some terms from a place on, and the others behind them
halves : (k : ℕ) (ms : List Node) → AreWhole ms → (flat_all (of_list (take k (spelled ms))) ++ flat_all (of_list (drop k (spelled ms)))) ≡ ms
halves k ms w = sym (flat_all-join (of_list (take k (spelled ms))) (of_list (drop k (spelled ms)))) ∙ ap flat_all (join-of_list (take k (spelled ms)) (drop k (spelled ms))) ∙ ap (λ ts. flat_all (of_list ts)) (take-append-drop k (spelled ms)) ∙ w

module _ (ns : List Node) (p k e : ℕ) (w : AreWhole ns) (q : e ≡ p + nodes_all (of_list (take k (spelled (drop p ns))))) where
  later_nodes : take (e - p) (drop p ns) ≡ flat_all (of_list (take k (spelled (drop p ns))))
  later_nodes =
      let size : e - p ≡ length (flat_all (of_list (take k (spelled (drop p ns))))) = omega (arith, q, length-flat_all (of_list (take k (spelled (drop p ns))))) in
      ap (λ n. take n (drop p ns)) size ∙ ap (take (length (flat_all (of_list (take k (spelled (drop p ns))))))) (sym (halves k (drop p ns) (whole-drop p ns w))) ∙ take-append_seam (flat_all (of_list (take k (spelled (drop p ns))))) (flat_all (of_list (drop k (spelled (drop p ns)))))

  later_trees : trees_of (take (e - p) (drop p ns)) ≡ of_list (take k (spelled (drop p ns)))
  later_trees = ap trees_of later_nodes ∙ trees_of-flat_all (of_list (take k (spelled (drop p ns))))

  pub later_whole : AreWhole (take (e - p) (drop p ns))
  later_whole = ap flat_all later_trees ∙ sym later_nodes

  pub later_long : length (take (e - p) (drop p ns)) ≡ e - p
  later_long = omega (arith, ap length later_nodes, length-flat_all (of_list (take k (spelled (drop p ns)))), q)

-- the first of some terms, alone
single : (ts : List Tree) → 1 ≤ length ts → IsWhole (flat_all (of_list (take 1 ts)))
single [] h = absurd (omega arith)
single (t ∷ ts) h = let P : List Node → Type 0 = IsWhole in subst P (sym (append-nil (flat t))) (whole-flat t)

pub later_single : (ns : List Node) (p k e : ℕ) → AreWhole ns → e ≡ p + nodes_all (of_list (take k (spelled (drop p ns)))) → k ≤ length (spelled (drop p ns)) → k ≡ 1 → IsWhole (take (e - p) (drop p ns))
later_single ns p k e w q enough one =
    let P : List Node → Type 0 = IsWhole in
    let first : flat_all (of_list (take k (spelled (drop p ns)))) ≡ flat_all (of_list (take 1 (spelled (drop p ns)))) = ap (λ m. flat_all (of_list (take m (spelled (drop p ns))))) one in
    subst P (sym (later_nodes ns p k e w q ∙ first)) (single (spelled (drop p ns)) (omega (arith, enough, one)))

differ_up : (cs : Trees) (s t : Tree) (rs rt : Trees) → s ≢ t → join cs (more s rs) ≡ join cs (more t rt) → ⊥
differ_up none s t rs rt ne e = ne cc
differ_up (more c cs) s t rs rt ne e = differ_up cs s t rs rt ne cc

module _ (ranks : List ℕ) (classes : Classes) where
  abbrev rank : Sym → ℕ
  rank = rank_of ranks

  abbrev above : ℕ → ℕ → Type 0
  above = IsHigher classes

  abbrev represent : ℕ → ℕ
  represent = representative classes

  -- the list as it looks
  abbrev pub read : List Node → List Node
  read ns = renamed_nodes represent ns

  read_whole : (ns : List Node) → IsWhole ns → AreWhole (read ns)
  read_whole ns w = whole_one (read ns) (renamed_is_whole represent ns w)

  pub shown_at : (ns : List Node) (p e : ℕ) → Begins ns p e → shown represent (tree_of (take (e - p) (drop p ns))) ≡ tree_of (drop p (read ns))
  shown_at ns p e b =
      ap (λ l. shown represent (tree_of l)) b.nodes_are
      ∙ ap (shown represent) (tree_of-flat (tree_of (drop p ns)))
      ∙ sym (ap tree_of (drop-renamed represent p ns) ∙ ap first_of_trees (spelled-renamed represent (drop p ns)) ∙ ap (λ ts. first_of_trees (map (apply (renaming represent)) ts)) b.spells)

  later_shown : (ns : List Node) (p k e : ℕ) → AreWhole ns → e ≡ p + nodes_all (of_list (take k (spelled (drop p ns)))) → shown_all represent (trees_of (take (e - p) (drop p ns))) ≡ of_list (take k (spelled (drop p (read ns))))
  later_shown ns p k e w q =
      ap (shown_all represent) (later_trees ns p k e w q)
      ∙ sym (renamed_of_list represent (take k (spelled (drop p ns))))
      ∙ ap of_list (sym (take-map represent k (spelled (drop p ns))))
      ∙ ap (λ ts. of_list (take k ts)) (sym (spelled-renamed represent (drop p ns)) ∙ ap spelled (sym (drop-renamed represent p ns)))

  -- how the way up stands
  pub record Climbed (s t : List Node) (at p from done s_to t_to : ℕ) (rest : Rest) : Type 0 where
    pub begun : from ≤ p
    pub part_first : p ≤ at
    pub few : from + done ≤ p
    pub front : Front (read s) (read t) from p done
    pub s_ends : s_to ≡ p + nodes (tree_of (drop p s))
    pub t_ends : t_to ≡ p + nodes (tree_of (drop p t))
    pub differ : tree_of (drop p (read s)) ≢ tree_of (drop p (read t))
    pub says : Says ranks classes rest (PathOrder rank above (tree_of (drop p (read s))) (tree_of (drop p (read t))))
    pub within : IsWithin (s_to - p + (t_to - p) + 1) rest
    pub inside : IsWithin (length s + length t) rest

  pub climbed_init : (s t : List Node) (at s_to t_to : ℕ) (rest : Rest) → IsWhole s → IsWhole t → 0 < at → at < length s → at < length t → get_or (read s) at (Var 0) ≢ get_or (read t) at (Var 0) → s_to ≡ at + nodes (tree_of (drop at s)) → t_to ≡ at + nodes (tree_of (drop at t)) → Says ranks classes rest (PathOrder rank above (shown represent (tree_of (take (s_to - at) (drop at s)))) (shown represent (tree_of (take (t_to - at) (drop at t))))) → IsWithin (length (take (s_to - at) (drop at s)) + length (take (t_to - at) (drop at t)) + 1) rest → Climbed s t at at at 0 s_to t_to rest
  climbed_init s t at s_to t_to rest ws wt some hs ht ne qs qt says within =
      let b = begins s at s_to (whole_one s ws) hs qs in
      let c = begins t at t_to (whole_one t wt) ht qt in
      let l = long_at s at s_to b in
      let m = long_at t at t_to c in
      record {
        begun = omega arith;
        part_first = omega arith;
        few = omega arith;
        front = front_none (read s) (read t) at;
        s_ends = qs;
        t_ends = qt;
        differ = differ_at (read s) (read t) at (Var 0) (read_whole s ws) (read_whole t wt) (omega (arith, hs, length-renamed represent s)) (omega (arith, ht, length-renamed represent t)) ne;
        says = rw (shown_at s at s_to b, shown_at t at t_to c) at says;
        within = within_more rest _ _ (omega (arith, l, m)) within;
        inside = within_more rest _ _ (omega (arith, l, m, some, b.within, c.within, hs, ht)) within;
      }

  module _ (s t : List Node) (at p from done s_to t_to : ℕ) (rest : Rest) (c : Climbed s t at p from done s_to t_to rest) (ws : IsWhole s) (wt : IsWhole t) (common : take at (read s) ≡ take at (read t)) (in_s : at < length s) (in_t : at < length t) (i : ℕ) (e : i + 1 ≡ from) where
    below : i < at
    below = omega (arith, c.begun, c.part_first, e)

    pub s_within : s_to ≤ length s
    s_within = (begins s p s_to (whole_one s ws) (omega (arith, c.part_first, in_s)) c.s_ends).within

    pub t_within : t_to ≤ length t
    t_within = (begins t p t_to (whole_one t wt) (omega (arith, c.part_first, in_t)) c.t_ends).within

    s_node : (n d : Node) → get_or s i d ≡ n → drop i (read s) ≡ renamed_node represent n ∷ drop (i + 1) (read s)
    s_node n d q = node_at (read s) i (Var 0) (renamed_node represent n) (omega (arith, below, in_s, length-renamed represent s)) (get_or-renamed represent s i d (Var 0) (omega (arith, below, in_s)) ∙ ap (renamed_node represent) q)

    t_node : (n d : Node) → get_or s i d ≡ n → drop i (read t) ≡ renamed_node represent n ∷ drop (i + 1) (read t)
    t_node n d q = node_at (read t) i (Var 0) (renamed_node represent n) (omega (arith, below, in_t, length-renamed represent t)) (sym (same_node (read s) (read t) i at (Var 0) below common) ∙ get_or-renamed represent s i d (Var 0) (omega (arith, below, in_s)) ∙ ap (renamed_node represent) q)

    pub climbed_var : (x : ℕ) (d : Node) → get_or s i d ≡ Var x → Climbed s t at p i (done + 1) s_to t_to rest
    climbed_var x d q = record {
      begun = omega (arith, c.begun, e);
      part_first = c.part_first;
      few = omega (arith, c.few, e);
      front = front_var (read s) (read t) i p done (represent x) (s_node (Var x) d q) (t_node (Var x) d q) (front_from (read s) (read t) i from p done e c.front);
      s_ends = c.s_ends;
      t_ends = c.t_ends;
      differ = c.differ;
      says = c.says;
      within = c.within;
      inside = c.inside;
    }

    module _ (f : Sym) (n : ℕ) (d : Node) (q : get_or s i d ≡ App f n) where
      pub climbed_app : n ≤ done → Climbed s t at p i (done - n + 1) s_to t_to rest
      climbed_app h = record {
        begun = omega (arith, c.begun, e);
        part_first = c.part_first;
        few = omega (arith, c.few, e, h);
        front = front_app (read s) (read t) i p done n f h (s_node (App f n) d q) (t_node (App f n) d q) (front_from (read s) (read t) i from p done e c.front);
        s_ends = c.s_ends;
        t_ends = c.t_ends;
        differ = c.differ;
        says = c.says;
        within = c.within;
        inside = c.inside;
      }

      module _ (h : done < n) where
        s_read : s_to ≡ p + nodes (tree_of (drop p (read s)))
        s_read = omega (arith, c.s_ends, nodes-renamed represent s p)

        t_read : t_to ≡ p + nodes (tree_of (drop p (read t)))
        t_read = omega (arith, c.t_ends, nodes-renamed represent t p)

        s_around : Around (read s) i p done n f c.front.trees s_to
        s_around =
            around (read s) i p done n s_to f c.front.trees (read_whole s ws) h (s_node (App f n) d q) c.front.long (ap (λ m. spelled (drop m (read s))) e ∙ c.front.left)
            (begins (read s) p s_to (read_whole s ws) (omega (arith, c.part_first, in_s, length-renamed represent s)) s_read)

        t_around : Around (read t) i p done n f c.front.trees t_to
        t_around =
            around (read t) i p done n t_to f c.front.trees (read_whole t wt) h (t_node (App f n) d q) c.front.long (ap (λ m. spelled (drop m (read t))) e ∙ c.front.right)
            (begins (read t) p t_to (read_whole t wt) (omega (arith, c.part_first, in_t, length-renamed represent t)) t_read)

        sizes : i + 1 + nodes_all (of_list c.front.trees) ≡ p
        sizes = omega (arith, c.front.sizes, e)

        pub s_enough : n - done - 1 ≤ length (spelled (drop s_to s))
        s_enough = omega (arith, s_around.enough, length_spelled_at represent s s_to)

        pub t_enough : n - done - 1 ≤ length (spelled (drop t_to t))
        t_enough = omega (arith, t_around.enough, length_spelled_at represent t t_to)

        module _ (s_end t_end : ℕ) (qs : s_end ≡ s_to + nodes_all (of_list (take (n - done - 1) (spelled (drop s_to s))))) (qt : t_end ≡ t_to + nodes_all (of_list (take (n - done - 1) (spelled (drop t_to t))))) where
          s_level : s_end ≡ i + nodes (tree_of (drop i s))
          s_level = omega (arith, around_ends (read s) i p done n s_to s_end f c.front.trees s_around sizes s_read (omega (arith, qs, nodes_all-renamed represent s s_to (n - done - 1))), nodes-renamed represent s i)

          t_level : t_end ≡ i + nodes (tree_of (drop i t))
          t_level = omega (arith, around_ends (read t) i p done n t_to t_end f c.front.trees t_around sizes t_read (omega (arith, qt, nodes_all-renamed represent t t_to (n - done - 1))), nodes-renamed represent t i)

          pub s_begins : Begins s i s_end
          s_begins = begins s i s_end (whole_one s ws) (omega (arith, below, in_s)) s_level

          pub t_begins : Begins t i t_end
          t_begins = begins t i t_end (whole_one t wt) (omega (arith, below, in_t)) t_level

          -- the parts of the level are smaller than it
          pub record Sizes : Type 0 where
            pub s_part : i + 2 ≤ s_to
            pub t_part : i + 2 ≤ t_to
            pub s_order : s_to ≤ s_end
            pub t_order : t_to ≤ t_end
            pub s_inside : s_end ≤ length s
            pub t_inside : t_end ≤ length t
            pub s_whole : IsWhole (take (s_end - i) (drop i s))
            pub t_whole : IsWhole (take (t_end - i) (drop i t))
            pub s_long : length (take (s_end - i) (drop i s)) ≡ s_end - i
            pub t_long : length (take (t_end - i) (drop i t)) ≡ t_end - i
            pub s_later : AreWhole (take (s_end - s_to) (drop s_to s))
            pub t_later : AreWhole (take (t_end - t_to) (drop t_to t))
            pub s_later_long : length (take (s_end - s_to) (drop s_to s)) ≡ s_end - s_to
            pub t_later_long : length (take (t_end - t_to) (drop t_to t)) ≡ t_end - t_to
            pub ready : IsWithin (length (take (s_end - i) (drop i s)) + length (take (t_end - i) (drop i t))) rest

          pub level_sizes : Sizes
          level_sizes =
              let l = long_at s i s_end s_begins in
              let m = long_at t i t_end t_begins in
              let u = nodes_pos (tree_of (drop p s)) in
              let v = nodes_pos (tree_of (drop p t)) in
              record {
                s_part = omega (arith, c.s_ends, c.begun, e, u);
                t_part = omega (arith, c.t_ends, c.begun, e, v);
                s_order = omega (arith, qs);
                t_order = omega (arith, qt);
                s_inside = s_begins.within;
                t_inside = t_begins.within;
                s_whole = whole_at s i s_end s_begins;
                t_whole = whole_at t i t_end t_begins;
                s_long = l;
                t_long = m;
                s_later = later_whole s s_to (n - done - 1) s_end (whole_one s ws) qs;
                t_later = later_whole t t_to (n - done - 1) t_end (whole_one t wt) qt;
                s_later_long = later_long s s_to (n - done - 1) s_end (whole_one s ws) qs;
                t_later_long = later_long t t_to (n - done - 1) t_end (whole_one t wt) qt;
                ready = within_more rest _ _ (omega (arith, l, m, qs, qt, c.s_ends, c.t_ends, c.begun, e, u, v)) c.within;
              }

          rs : List Tree
          rs = take (n - done - 1) (spelled (drop s_to (read s)))

          rt : List Tree
          rt = take (n - done - 1) (spelled (drop t_to (read t)))

          s_tree : tree_of (drop i (read s)) ≡ app f (join (of_list c.front.trees) (more (tree_of (drop p (read s))) (of_list rs)))
          unfolding rs
          s_tree = s_around.tree ∙ ap (app f) (sym (join-of_list c.front.trees (tree_of (drop p (read s)) ∷ take (n - done - 1) (spelled (drop s_to (read s))))))

          t_tree : tree_of (drop i (read t)) ≡ app f (join (of_list c.front.trees) (more (tree_of (drop p (read t))) (of_list rt)))
          unfolding rt
          t_tree = t_around.tree ∙ ap (app f) (sym (join-of_list c.front.trees (tree_of (drop p (read t)) ∷ take (n - done - 1) (spelled (drop t_to (read t))))))

          over_s : Exceeds rank above (tree_of (drop i (read s))) (of_list rs)
          over_s = rw s_tree (over_later rank above (higher_transitive classes) (higher_irreflexive classes) f (of_list c.front.trees) (tree_of (drop p (read s))) (of_list rs))

          over_t : Exceeds rank above (tree_of (drop i (read t))) (of_list rt)
          over_t = rw t_tree (over_later rank above (higher_transitive classes) (higher_irreflexive classes) f (of_list c.front.trees) (tree_of (drop p (read t))) (of_list rt))

          -- the level is greater than each of its later arguments
          pub s_exceeds : Exceeds rank above (shown represent (tree_of (take (s_end - i) (drop i s)))) (shown_all represent (trees_of (take (s_end - s_to) (drop s_to s))))
          unfolding rs
          s_exceeds = rw (later_shown s s_to (n - done - 1) s_end (whole_one s ws) qs, shown_at s i s_end s_begins) over_s

          pub t_exceeds : Exceeds rank above (shown represent (tree_of (take (t_end - i) (drop i t)))) (shown_all represent (trees_of (take (t_end - t_to) (drop t_to t))))
          unfolding rt
          t_exceeds = rw (later_shown t t_to (n - done - 1) t_end (whole_one t wt) qt, shown_at t i t_end t_begins) over_t

          module _ (result : Rest) (g : Goes ranks classes rest result (SomeReaches rank above (shown_all represent (trees_of (take (s_end - s_to) (drop s_to s)))) (shown represent (tree_of (take (t_end - i) (drop i t))))) (Exceeds rank above (shown represent (tree_of (take (s_end - i) (drop i s)))) (shown_all represent (trees_of (take (t_end - t_to) (drop t_to t)))))) where
            goes : Goes ranks classes rest result (SomeReaches rank above (of_list rs) (tree_of (drop i (read t)))) (Exceeds rank above (tree_of (drop i (read s))) (of_list rt))
            unfolding rs rt
            goes = rw (later_shown s s_to (n - done - 1) s_end (whole_one s ws) qs, later_shown t t_to (n - done - 1) t_end (whole_one t wt) qt, shown_at s i s_end s_begins, shown_at t i t_end t_begins) at g

            says_up : Says ranks classes result (PathOrder rank above (tree_of (drop i (read s))) (tree_of (drop i (read t))))
            says_up =
                let g' = rw (s_tree, t_tree) at goes in
                rw (s_tree, t_tree) (level_says ranks classes rest result f (of_list c.front.trees) (tree_of (drop p (read s))) (tree_of (drop p (read t))) (of_list rs) (of_list rt) c.differ c.says g')

            differ_i : tree_of (drop i (read s)) ≢ tree_of (drop i (read t))
            differ_i q = differ_up (of_list c.front.trees) (tree_of (drop p (read s))) (tree_of (drop p (read t))) (of_list rs) (of_list rt) c.differ (let k = sym s_tree ∙ q ∙ t_tree in cc)

            pub climbed_up : IsWithin (length (take (s_end - i) (drop i s)) + length (take (t_end - i) (drop i t))) result → Climbed s t at i i 0 s_end t_end result
            climbed_up small =
                let z = level_sizes in
                record {
                  begun = omega arith;
                  part_first = omega (arith, below);
                  few = omega arith;
                  front = front_none (read s) (read t) i;
                  s_ends = s_level;
                  t_ends = t_level;
                  differ = differ_i;
                  says = says_up;
                  within = within_more result _ _ (omega (arith, z.s_long, z.t_long)) small;
                  inside = within_more result _ _ (omega (arith, z.s_long, z.t_long, z.s_inside, z.t_inside)) small;
                }

        -- at the root the last arguments end with the list
        pub s_root : i ≡ 0 → length s ≡ s_to + nodes_all (of_list (take (n - done - 1) (spelled (drop s_to s))))
        s_root z =
            let all = s_level (s_to + nodes_all (of_list (take (n - done - 1) (spelled (drop s_to s))))) (t_to + nodes_all (of_list (take (n - done - 1) (spelled (drop t_to t))))) refl refl in
            omega (arith, all, z, ap (λ k. nodes (tree_of (drop k s))) z, nodes_whole s ws)

        pub t_root : i ≡ 0 → length t ≡ t_to + nodes_all (of_list (take (n - done - 1) (spelled (drop t_to t))))
        t_root z =
            let all = t_level (s_to + nodes_all (of_list (take (n - done - 1) (spelled (drop s_to s))))) (t_to + nodes_all (of_list (take (n - done - 1) (spelled (drop t_to t))))) refl refl in
            omega (arith, all, z, ap (λ k. nodes (tree_of (drop k t))) z, nodes_whole t wt)

  pub alike_not_greater : (s t : List Node) (at : ℕ) → IsWhole s → IsWhole t → take at (read s) ≡ take at (read t) → at ≤ length s → at ≤ length t → (length s ≤ at) ⊎ (length t ≤ at) → PathOrder rank above (shown represent (tree_of s)) (shown represent (tree_of t)) → ⊥
  alike_not_greater s t at ws wt common hs ht over l =
      let in_s : at ≤ length (read s) = omega (arith, hs, length-renamed represent s) in
      let in_t : at ≤ length (read t) = omega (arith, ht, length-renamed represent t) in
      let ends : (length (read s) ≤ at) ⊎ (length (read t) ≤ at) = elim over [ inl k ↦ inl (omega (arith, k, length-renamed represent s)) | inr k ↦ inr (omega (arith, k, length-renamed represent t)) ] in
      let trees = same_front (read s) (read t) at (renamed_is_whole represent s ws) (renamed_is_whole represent t wt) common in_s in_t ends in
      let same : shown represent (tree_of s) ≡ shown represent (tree_of t) = sym (renamed_tree represent s ws) ∙ trees ∙ renamed_tree represent t wt in
      irreflexive rank above (higher_transitive classes) (higher_irreflexive classes) _ (rw same at l)

  pub climbed_end : (s t : List Node) (at p from done s_to t_to : ℕ) (rest : Rest) → Climbed s t at p from done s_to t_to rest → from ≡ 0 → IsWhole s → IsWhole t → at < length s → Says ranks classes rest (PathOrder rank above (shown represent (tree_of s)) (shown represent (tree_of t)))
  climbed_end s t at p from done s_to t_to rest c z ws wt h =
      let front : spelled (read s) ≡ c.front.trees ++ spelled (drop p (read s)) = ap (λ m. spelled (drop m (read s))) (sym z) ∙ c.front.left in
      let root : p ≡ 0 = at_root (read s) (read t) p c.front.trees (renamed_is_whole represent s ws) (omega (arith, c.part_first, h, length-renamed represent s)) (read_whole s ws) front (omega (arith, c.front.sizes, z)) in
      let P : ℕ → Type 0 = λ m. Says ranks classes rest (PathOrder rank above (tree_of (drop m (read s))) (tree_of (drop m (read t)))) in
      rw (renamed_tree represent s ws, renamed_tree represent t wt) at (subst P root c.says)
