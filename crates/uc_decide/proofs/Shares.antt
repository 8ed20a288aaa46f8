-- Replies one after another, the share of each worker, and the replies of all in order.
use Rattle.std.proofs.Common.{ℕ, zero, suc, ◌+◌, ◌≡◌, ◌<◌, ◌≤◌, List, [], ◌∷◌, ◌++◌, length, get_or, drop, refl, sym, ap, ◌∙◌, subst, arith, append_assoc, append-nil}
use Rattle.std.proofs.lemmas.List.{drop-drop, drop_more}
use Rattle.std.proofs.Math.ListN.{drop_of_length-le}
use Rattle.std.specs.Prelude.{Result, Ok, Err, IfOk}
use Rattle.uc_term.specs.Tree.{Tree}
use Rattle.uc_order.specs.Laws.{Meaning}
use Rattle.uc_fact.specs.Live.{Live}
use Rattle.uc_decide.specs.declared.reply.Reply.{Reply}
use Rattle.uc_decide.specs.Asking.{IsReply}
use Rattle.uc_decide.specs.AskingAll.{AreReplies, no_reply, one_reply, share_of}

-- LISTS

drop_next : {A : Type 0} (i : ℕ) (xs : List A) (x : A) → i < length xs → x ≡ get_or xs i x → drop i xs ≡ x ∷ drop (i + 1) xs
drop_next i xs x h e = drop_more xs i x h ∙ ap (λ y. y ∷ drop (i + 1) xs) (sym e)

drop_none : {A : Type 0} (xs : List A) (i : ℕ) → length xs ≤ i → drop i xs ≡ []
drop_none xs i h = drop_of_length-le xs h

pub no_items : {A : Type 0} (xs : List A) → length xs ≡ 0 → xs ≡ []
no_items [] e = refl
no_items (x ∷ xs) e = absurd (omega (arith, e))

-- SHARES

share_from : {A : Type 0} (n i : ℕ) (xs : List A) → share_of n i xs ≡ share_of n 0 (drop i xs)
share_from n zero xs = refl
share_from n (suc i) [] = refl
share_from n (suc i) (x ∷ xs) = share_from n i xs

share_next : {A : Type 0} (n i : ℕ) (xs : List A) (x : A) → i < length xs → x ≡ get_or xs i x → share_of n 0 (drop i xs) ≡ x ∷ share_of n 0 (drop (i + 1 + n) xs)
share_next n i xs x h e = ap (share_of n 0) (drop_next i xs x h e) ∙ ap (λ l. x ∷ l) (share_from n n (drop (i + 1) xs) ∙ ap (share_of n 0) (drop-drop n (i + 1) xs))

-- REPLIES ONE AFTER ANOTHER

module _ (m : Meaning) (facts : List Live) (steps : ℕ) where
  -- with replies to the rest the list has one to each question
  abbrev pub Continues : List (Tree × Tree) → List (Tree × Tree) → List Reply → Type 0
  Continues all rest list = (rs : List Reply) → AreReplies m facts steps rest rs → AreReplies m facts steps all (list ++ rs)

  pub replies_begin : (all rest : List (Tree × Tree)) (list : List Reply) → list ≡ [] → rest ≡ all → Continues all rest list
  replies_begin all rest list e same = λ rs a. subst (AreReplies m facts steps all) (sym (ap (λ l. l ++ rs) e)) (subst (λ qs. AreReplies m facts steps qs rs) same a)

  pub reply_on : (all rest later : List (Tree × Tree)) (sides : Tree × Tree) (reply : Reply) (old new : List Reply) → rest ≡ sides ∷ later → new ≡ old ++ reply ∷ [] → IsReply m facts steps sides.0 sides.1 reply → Continues all rest old → Continues all later new
  reply_on all rest later sides reply old new e n i c = λ rs a.
      subst (AreReplies m facts steps all) (sym (ap (λ l. l ++ rs) n ∙ append_assoc old (reply ∷ []) rs))
      (c (reply ∷ rs) (subst (λ qs. AreReplies m facts steps qs (reply ∷ rs)) (sym e) (one_reply i a)))

  pub replies_end : (all rest : List (Tree × Tree)) (list : List Reply) → rest ≡ [] → Continues all rest list → AreReplies m facts steps all list
  replies_end all rest list e c = subst (AreReplies m facts steps all) (append-nil list) (c [] (subst (λ qs. AreReplies m facts steps qs []) (sym e) no_reply))

  -- the questions that are left are dropped from the list
  pub asked_begin : (qs : List (Tree × Tree)) (list : List Reply) → list ≡ [] → Continues qs (drop 0 qs) list
  asked_begin qs list e = replies_begin qs qs list e refl

  pub asked_on : (all qs : List (Tree × Tree)) (i : ℕ) (sides : Tree × Tree) (reply : Reply) (old new : List Reply) → i < length qs → sides ≡ get_or qs i sides → new ≡ old ++ reply ∷ [] → IsReply m facts steps sides.0 sides.1 reply → Continues all (drop i qs) old → Continues all (drop (i + 1) qs) new
  asked_on all qs i sides reply old new h e n r c = reply_on all (drop i qs) (drop (i + 1) qs) sides reply old new (drop_next i qs sides h e) n r c

  pub asked_end : (qs : List (Tree × Tree)) (i : ℕ) (list : List Reply) → length qs ≤ i → Continues qs (drop i qs) list → AreReplies m facts steps qs list
  asked_end qs i list h c = replies_end qs (drop i qs) list (drop_none qs i h) c

  -- those of a worker
  abbrev pub Shares : ℕ → ℕ → List (Tree × Tree) → ℕ → List Reply → Type 0
  Shares n place qs ticket list = Continues (share_of n place qs) (share_of n 0 (drop ticket qs)) list

  pub share_begin : (n place : ℕ) (qs : List (Tree × Tree)) (list : List Reply) → list ≡ [] → Shares n place qs place list
  share_begin n place qs list e = replies_begin (share_of n place qs) (share_of n 0 (drop place qs)) list e (sym (share_from n place qs))

  pub share_on : (n place workers ticket : ℕ) (qs : List (Tree × Tree)) (sides : Tree × Tree) (reply : Reply) (old new : List Reply) → suc n ≡ workers → ticket < length qs → sides ≡ get_or qs ticket sides → new ≡ old ++ reply ∷ [] → IsReply m facts steps sides.0 sides.1 reply → Shares n place qs ticket old → Shares n place qs (ticket + workers) new
  share_on n place workers ticket qs sides reply old new w h e a r c =
      let next : ticket + 1 + n ≡ ticket + workers = omega (arith, w) in
      reply_on (share_of n place qs) (share_of n 0 (drop ticket qs)) (share_of n 0 (drop (ticket + workers) qs)) sides reply old new (share_next n ticket qs sides h e ∙ ap (λ i. sides ∷ share_of n 0 (drop i qs)) next) a r c

  pub share_end : (n place ticket : ℕ) (qs : List (Tree × Tree)) (list : List Reply) → length qs ≤ ticket → Shares n place qs ticket list → AreReplies m facts steps (share_of n place qs) list
  share_end n place ticket qs list h c = replies_end (share_of n place qs) (share_of n 0 (drop ticket qs)) list (ap (share_of n 0) (drop_none qs ticket h)) c

  uncons : (q : Tree × Tree) (qs : List (Tree × Tree)) (r : Reply) (rs : List Reply) → AreReplies m facts steps (q ∷ qs) (r ∷ rs) → IsReply m facts steps q.0 q.1 r × AreReplies m facts steps qs rs
  uncons q qs r rs (one_reply i a) = (i, a)

  unasked : (r : Reply) (rs : List Reply) → AreReplies m facts steps [] (r ∷ rs) → ⊥
  unasked r rs a = elim a [ ]

  unanswered : (q : Tree × Tree) (qs : List (Tree × Tree)) → AreReplies m facts steps (q ∷ qs) [] → ⊥
  unanswered q qs a = elim a [ ]

  shared_end : (n : ℕ) (questions rest : List (Tree × Tree)) (list : List Reply) → AreReplies m facts steps (share_of n 0 rest) [] → Continues questions rest list → AreReplies m facts steps questions list
  shared_end n questions [] list a c = replies_end questions [] list refl c
  shared_end n questions (q ∷ qs) list a c = absurd (unanswered q (share_of n n qs) a)

-- THE HANDS

module _ {H E : Type 0} (left : H → List Reply) where
  -- how many replies the hands have left
  abbrev pub remaining : List (Result H E) → ℕ
  remaining [] = 0
  remaining (Ok h ∷ hs) = length (left h) + remaining hs
  remaining (Err e ∷ hs) = remaining hs

  remaining_behind : (hs : List (Result H E)) (h : H) → remaining (hs ++ Ok h ∷ []) ≡ remaining hs + length (left h)
  remaining_behind [] h = omega arith
  remaining_behind (Ok g ∷ hs) h = omega (arith, remaining_behind hs h)
  remaining_behind (Err e ∷ hs) h = remaining_behind hs h

  pub remain_fewer : (hands others new : List (Result H E)) (h later : H) (reply : Reply) → hands ≡ Ok h ∷ others → left h ≡ reply ∷ left later → new ≡ others ++ Ok later ∷ [] → remaining new < remaining hands
  remain_fewer hands others new h later reply e l n =
      let a = ap remaining e in
      let b = ap remaining n in
      let d = ap length l in
      let f = remaining_behind others later in
      omega (arith, a, b, d, f)

  module _ (m : Meaning) (facts : List Live) (steps n : ℕ) where
    -- These are what the workers from a place on hold, who with those before it are n + 1: where memory wasn't refused, each has
    -- the replies to its share left.
    abbrev pub AreHands : List (Tree × Tree) → ℕ → List (Result H E) → Type 0
    AreHands qs place [] = (place ≡ n + 1)
    AreHands qs place (hand ∷ hands) = IfOk hand (λ h. AreReplies m facts steps (share_of n place qs) (left h)) × AreHands qs (suc place) hands

    hands_from : (qs : List (Tree × Tree)) (place : ℕ) (hands : List (Result H E)) → place + length hands ≡ n + 1 → ((j : ℕ) (d : Result H E) → j < length hands → IfOk (get_or hands j d) (λ h. AreReplies m facts steps (share_of n (place + j) qs) (left h))) → AreHands qs place hands
    hands_from qs place [] e all = omega (arith, e)
    hands_from qs place (hand ∷ hands) e all =
        let here : place + 0 ≡ place = omega arith in (
          subst (λ p. IfOk hand (λ h. AreReplies m facts steps (share_of n p qs) (left h))) here (all 0 hand (omega arith)),
          hands_from qs (suc place) hands (omega (arith, e)) (λ j d l.
              let next : place + suc j ≡ suc place + j = omega arith in
              subst (λ p. IfOk (get_or hands j d) (λ h. AreReplies m facts steps (share_of n p qs) (left h))) next (all (suc j) d (omega (arith, l)))),
        )

    pub hands_are : (qs : List (Tree × Tree)) (hands : List (Result H E)) → length hands ≡ n + 1 → ((j : ℕ) (d : Result H E) → j < length hands → IfOk (get_or hands j d) (λ h. AreReplies m facts steps (share_of n j qs) (left h))) → AreHands qs 0 hands
    hands_are qs hands e all = hands_from qs 0 hands (omega (arith, e)) (λ j d l.
        let same : j ≡ 0 + j = omega arith in
        subst (λ p. IfOk (get_or hands j d) (λ h. AreReplies m facts steps (share_of n p qs) (left h))) same (all j d l))

    -- the hand in front goes to the end
    rotated : (q : Tree × Tree) (qs : List (Tree × Tree)) (place : ℕ) (hands : List (Result H E)) (hand : Result H E) → AreHands (q ∷ qs) (suc place) hands → IfOk hand (λ h. AreReplies m facts steps (share_of n n qs) (left h)) → AreHands qs place (hands ++ hand ∷ [])
    rotated q qs place [] hand e a =
        let last : n ≡ place = omega (arith, e) in
        (subst (λ p. IfOk hand (λ h. AreReplies m facts steps (share_of n p qs) (left h))) last a, omega (arith, e))
    rotated q qs place (x ∷ xs) hand are a = (are.0, rotated q qs (suc place) xs hand are.1 a)

    -- what the hands have left are the replies that the list lacks
    pub record Lacks (questions : List (Tree × Tree)) (hands : List (Result H E)) (list : List Reply) : Type 0 where
      pub rest : List (Tree × Tree)
      pub are : AreHands rest 0 hands
      pub leads : Continues m facts steps questions rest list

    pub hands_begin : (questions : List (Tree × Tree)) (hands : List (Result H E)) (list : List Reply) → list ≡ [] → AreHands questions 0 hands → Lacks questions hands list
    hands_begin questions hands list e are = record { rest = questions; are = are; leads = replies_begin m facts steps questions questions list e refl }

    hand_on : (questions rest : List (Tree × Tree)) (others : List (Result H E)) (later : H) (reply : Reply) (old new : List Reply) → new ≡ old ++ reply ∷ [] → AreReplies m facts steps (share_of n 0 rest) (reply ∷ left later) → AreHands rest 1 others → Continues m facts steps questions rest old → Lacks questions (others ++ Ok later ∷ []) new
    hand_on questions [] others later reply old new e a are c = absurd (unasked m facts steps reply (left later) a)
    hand_on questions (q ∷ qs) others later reply old new e a are c =
        let both = uncons m facts steps q (share_of n n qs) reply (left later) a in
        record {
          rest = qs;
          are = rotated q qs 0 others (Ok later) are both.1;
          leads = reply_on m facts steps questions (q ∷ qs) qs q reply old new refl e both.0 c;
        }

    pub hands_on : (questions : List (Tree × Tree)) (hands others next : List (Result H E)) (h later : H) (reply : Reply) (old new : List Reply) → hands ≡ Ok h ∷ others → left h ≡ reply ∷ left later → next ≡ others ++ Ok later ∷ [] → new ≡ old ++ reply ∷ [] → Lacks questions hands old → Lacks questions next new
    hands_on questions hands others next h later reply old new e l x a lacks =
        let are = subst (AreHands lacks.rest 0) e lacks.are in
        subst (λ hs. Lacks questions hs new) (sym x)
        (hand_on questions lacks.rest others later reply old new a (subst (AreReplies m facts steps (share_of n 0 lacks.rest)) l are.0) are.1 lacks.leads)

    pub hands_end : (questions : List (Tree × Tree)) (hands others : List (Result H E)) (h : H) (list : List Reply) → hands ≡ Ok h ∷ others → left h ≡ [] → Lacks questions hands list → AreReplies m facts steps questions list
    hands_end questions hands others h list e l lacks =
        let are = subst (AreHands lacks.rest 0) e lacks.are in
        shared_end m facts steps n questions lacks.rest list (subst (AreReplies m facts steps (share_of n 0 lacks.rest)) l are.0) lacks.leads

    pub some_hand : (questions : List (Tree × Tree)) (hands : List (Result H E)) (list : List Reply) → hands ≡ [] → Lacks questions hands list → ⊥
    some_hand questions hands list e lacks =
        let none : 0 ≡ n + 1 = subst (AreHands lacks.rest 0) e lacks.are in
        omega (arith, none)
