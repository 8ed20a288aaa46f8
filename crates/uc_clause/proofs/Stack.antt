-- The functors whose arguments are being read, and how what is read of the present argument completes them.
use Rattle.std.proofs.Common.{◌≡◌, ℕ, ◌+◌, ◌<◌, List, [], ◌∷◌, ◌++◌, length, length-append, refl, sym, ap, ◌∙◌, subst, arith, append-nil, append_assoc}
use Rattle.uc_term.specs.declared.node.Node.{Node}
use Rattle.uc_term.specs.Tree.{Tree, Trees, none, more}
use Rattle.uc_term.specs.Flat.{flat, flat_all}
use Rattle.uc_term.specs.Table.{Table, Grows}
use Rattle.uc_clause.specs.declared.token.Token.{Token}
use Rattle.uc_clause.specs.declared.terminal.Terminal.TheVariants.{Open, Close, Comma}
use Rattle.uc_clause.specs.declared.grammar.head.Head.TheVariants.{Functor}
use Rattle.uc_clause.specs.declared.grammar.draft.Pending.{Pending}
use Rattle.uc_clause.specs.declared.grammar.stop.Why.{Why}
use Rattle.uc_clause.specs.Terminals.{terminal_at}
use Rattle.uc_clause.specs.Rules.{Outcome, read, stop, mapped}
use Rattle.uc_clause.specs.Parse.{Parse, applied, Parses, no_more, also, leaves_all, variables_all, count_all, size}
use Rattle.uc_clause.specs.Terms.{head_at, Term, Args, is_applied, stops_in_it, is_last, is_followed}
use Rattle.uc_clause.specs.Meaning.{Variables, MeanAll}
use Rattle.uc_clause.specs.Drafts.{blank}
use Rattle.uc_clause.proofs.Means.{Extends, mean_all_grows, append, append_trees, append_also, count_append, flat_append}

-- a functor, by its token, and its arguments before the present one
pub record Frame : Type 0 where
  pub functor : ℕ
  pub done : Parses
  pub trees : Trees

-- what the frames, the innermost first, have so far
abbrev pub content : List Frame → List Node
content [] = []
content (F ∷ fs) = content fs ++ blank ∷ flat_all F.trees

abbrev pub leaves_of : List Frame → List ℕ
leaves_of [] = []
leaves_of (F ∷ fs) = leaves_of fs ++ F.functor ∷ leaves_all F.done

abbrev pub variables_of : List Frame → List ℕ
variables_of [] = []
variables_of (F ∷ fs) = variables_of fs ++ variables_all F.done

abbrev pub pending_of : List Frame → List Pending
pending_of [] = []
pending_of (F ∷ fs) = pending_of fs ++ record { functor = F.functor; node = length (content fs); number = count_all F.done + 1 } ∷ []

-- with these arguments behind those of the frame
abbrev pub applied_after : Frame → Parses → Parse
applied_after F ps = applied F.functor (append F.done ps)

mapped_also : (F : Frame) (p : Parse) (o : Outcome Parses) → mapped (applied_after (record F { done = append F.done (also p no_more) })) o ≡ mapped (applied_after F) (mapped (also p) o)
mapped_also F p (read ps end) = ap (λ qs. read (applied F.functor qs) end) (append_also F.done ps p)
mapped_also F p (stop why k) = refl

module _ (bytes : List ℕ) (tokens : List Token) where
  abbrev pub MeanFrames : Table → Variables → List Frame → Type 0
  MeanFrames table seen [] = Unit {0}
  MeanFrames table seen (F ∷ fs) = MeanAll bytes tokens table seen F.done F.trees × MeanFrames table seen fs

  pub mean_frames_grow : (old new : Table) (seen more_seen : Variables) → Grows old new → Extends seen more_seen → (fs : List Frame) → MeanFrames old seen fs → MeanFrames new more_seen fs
  mean_frames_grow old new seen more_seen g e [] m = tt
  mean_frames_grow old new seen more_seen g e (F ∷ fs) m = (mean_all_grows bytes tokens old new seen more_seen g e m.0, mean_frames_grow old new seen more_seen g e fs m.1)

  -- whatever the arguments from the present one on come to, the frame's term comes to
  abbrev pub Completes : Frame → List Frame → ℕ → Type 0
  Completes F fs at = (o : Outcome Parses) → Args bytes tokens F.functor (count_all F.done + 1) (length (content (F ∷ fs))) at o → Term bytes tokens (length (content fs)) F.functor (mapped (applied_after F) o)

  -- a term that begins here is an argument of the innermost frame, whose term is one of the next, and so on up to the
  -- whole term, which begins at `from`
  abbrev pub Stacked : ℕ → List Frame → ℕ → Type 0
  Stacked from [] at = at ≡ from
  Stacked from (F ∷ fs) at = Stacked from fs F.functor × Completes F fs at × (head_at bytes tokens F.functor ≡ Functor)

  -- where it stops, the whole term stops
  pub stops_whole : (from : ℕ) (fs : List Frame) (at : ℕ) (why : Why) (k : ℕ) → Stacked from fs at → Term bytes tokens (length (content fs)) at (stop why k) → Term bytes tokens 0 from (stop why k)
  stops_whole from [] at why k s term = subst (λ a. Term bytes tokens 0 a (stop why k)) s term
  stops_whole from (F ∷ fs) at why k s term = stops_whole from fs F.functor why k s.0 (s.1 (stop why k) (stops_in_it term))

  pub stops_args : (from : ℕ) (F : Frame) (fs : List Frame) (at : ℕ) (why : Why) (k : ℕ) → Stacked from (F ∷ fs) at → Args bytes tokens F.functor (count_all F.done + 1) (length (content (F ∷ fs))) at (stop why k) → Term bytes tokens 0 from (stop why k)
  stops_args from F fs at why k s args = stops_whole from fs F.functor why k s.0 (s.1 (stop why k) args)

  -- the first argument of a functor
  abbrev pub new_frame : ℕ → Frame
  new_frame at = record { functor = at; done = no_more; trees = none }

  mapped_none : (at : ℕ) (o : Outcome Parses) → mapped (applied_after (new_frame at)) o ≡ mapped (applied at) o
  mapped_none at (read ps end) = refl
  mapped_none at (stop why k) = refl

  pub opened : (from : ℕ) (fs : List Frame) (at : ℕ) → Stacked from fs at → head_at bytes tokens at ≡ Functor → length (content fs) < 4096 → terminal_at bytes tokens (at + 1) ≡ Open → Stacked from (new_frame at ∷ fs) (at + 2)
  opened from fs at s head room bracket =
      let one : length (content fs ++ blank ∷ []) ≡ length (content fs) + 1 = omega (arith, length-append (content fs) (blank ∷ [])) in
      (s, λ o args. rw (mapped_none at o) (is_applied head room bracket (let zero_one : count_all no_more + 1 ≡ 1 = omega arith in rw (one, zero_one) at args)), head)

  -- the next argument
  abbrev pub next_frame : Frame → Parse → Tree → Frame
  next_frame F p t = record { functor = F.functor; done = append F.done (also p no_more); trees = append_trees F.trees (more t none) }

  content_next : (F : Frame) (fs : List Frame) (p : Parse) (t : Tree) → content (next_frame F p t ∷ fs) ≡ content (F ∷ fs) ++ flat t
  content_next F fs p t = rw (flat_append F.trees (more t none), append-nil (flat t)) (sym (append_assoc (content fs) (blank ∷ flat_all F.trees) (flat t)))

  pub followed : (from : ℕ) (F : Frame) (fs : List Frame) (start at : ℕ) (p : Parse) (t : Tree) → Stacked from (F ∷ fs) start → Term bytes tokens (length (content (F ∷ fs))) start (read p at) → size p ≡ length (flat t) → terminal_at bytes tokens at ≡ Comma → count_all F.done + 1 < 255 → Stacked from (next_frame F p t ∷ fs) (at + 1)
  followed from F fs start at p t s term same comma few =
      let number : count_all (append F.done (also p no_more)) + 1 ≡ count_all F.done + 1 + 1 = omega (arith, count_append F.done (also p no_more)) in
      let used : length (content (next_frame F p t ∷ fs)) ≡ length (content (F ∷ fs)) + size p = ap length (content_next F fs p t) ∙ omega (arith, length-append (content (F ∷ fs)) (flat t)) in
      (s.0, λ o args. rw (mapped_also F p o) (s.1 (mapped (also p) o) (is_followed term comma few (rw (number, used) at args))), s.2)

  pub closed : (from : ℕ) (F : Frame) (fs : List Frame) (start at : ℕ) (p : Parse) → Stacked from (F ∷ fs) start → Term bytes tokens (length (content (F ∷ fs))) start (read p at) → terminal_at bytes tokens at ≡ Close → Term bytes tokens (length (content fs)) F.functor (read (applied_after F (also p no_more)) (at + 1))
  closed from F fs start at p s term close = s.1 (read (also p no_more) (at + 1)) (is_last term close)
