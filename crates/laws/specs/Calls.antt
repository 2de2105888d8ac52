-- The four clauses on joins (demand 3), over what accepted calls leave in their buffers, in Unix mode: joining to the empty path gives the second; p
-- with (q with r) and (p with q) with r are the same bytes; a relative q joined to a nonempty p has p's components, then q's less a leading
-- dot; if a base can be stripped, joining what remains back gives the path's own component list.
use Rattle.std.specs.Prelude.{ℕ, ◌≤◌, ◌≡◌, refl, false, List, [], ◌++◌, ◌↔◌, length, take}
use Rattle.std.proofs.Common.{arith, sym, ap, ◌∙◌}
use Rattle.std.proofs.lemmas.Bool.{false≢true}
use borrow.Author.Tests.{ltb-false, le-ltb}
use Rattle.octets.specs.Class.{limit, seps_of}
use Rattle.octets.specs.Laws.{split}
use Rattle.octets.specs.declared.Seps.TheVariants.{Unix}
use Rattle.answers.specs.declared.Reply.TheVariants.{Done, Mode, Length}
use Rattle.answers.specs.declared.View.{View}
use Rattle.answers.specs.Reply.{refused_view}
use Rattle.answers.specs.Outcome.{give, told, guard}
use Rattle.answers.specs.Written.{Wrote}
use Rattle.components.specs.List.{sep_at, dir_of, start_of, has_root, is_absolute}
use Rattle.parts.specs.Elements.{bytes_at}
use Rattle.order.specs.Values.{values_of}
use Rattle.matches.specs.Match.{starts_of}
use Rattle.matches.specs.Strip.{strip_of}
use Rattle.joins.specs.Join.{joined}
use Rattle.paths.specs.Pairs.{pair_call, strip_call}
use Rattle.paths.specs.Writes.{join_call}
use Rattle.laws.specs.Joins.{undotted, join_empty, join_grouping, join_components, strip_joins}
use Rattle.laws.specs.Rooms.{Standing, reply_in, apart, done_exactly, result_left, wrote_passes, told_passes}

-- an accepted call: join of p and q in mode 0 met its promise, was answered Done, and left the bytes x
pub record Joins (p q x : List ℕ) : Type 0 where
  pub answer : View
  pub before : List ℕ
  pub after : List ℕ
  pub promise : Wrote (join_call 0 p q) answer before after
  pub done : answer.reply ≡ Done
  pub bytes : take answer.len after ≡ x

module _ (p q : List ℕ) (a : View) (before after : List ℕ) (w : Wrote (join_call 0 p q) a before after) where
  -- a join that is answered Done had inputs within the limit, found room, and left the defined result
  pub left_is : a.reply ≡ Done → (length p ≤ limit) × (length q ≤ limit) × Standing (joined Unix p q) a before after
  unfolding pair_call seps_of
  left_is d =
      let m = wrote_passes _ Mode _ a before after w (λ e. apart d e (λ z. omega arith)) in
      let l = wrote_passes _ Length _ a before after m.1 (λ e. apart d e (λ z. omega arith)) in
      let r = wrote_passes _ Length _ a before after l.1 (λ e. apart d e (λ z. omega arith)) in
      (ltb-false limit (length p) l.0, ltb-false limit (length q) r.0, result_left (joined Unix p q) a before after r.1 d)

  -- and it is answered so exactly where these hold: where a result, as that of an inner join, passes the limit, the call that is given it
  -- is refused, and nothing is said of it
  pub accepted : (a.reply ≡ Done) ↔ ((length p ≤ limit) × (length q ≤ limit) × (length (joined Unix p q) ≤ length before))
  unfolding pair_call seps_of guard
  accepted = (
    λ d. ((left_is d).0, (left_is d).1, (left_is d).2.room),
    λ h. (done_exactly (joined Unix p q) a before after (rw (le-ltb limit (length p) h.0, le-ltb limit (length q) h.1) at w)).1 h.2,
  )

joined_is : (p q x : List ℕ) → Joins p q x → x ≡ joined Unix p q
joined_is p q x j = sym j.bytes ∙ (left_is p q j.answer j.before j.after j.promise j.done).2.is

-- joining to the empty path gives the second
pub empty_gives : (q x : List ℕ) → Joins [] q x → x ≡ q
empty_gives q x j = joined_is [] q x j ∙ join_empty q

-- p with (q with r) and (p with q) with r are the same bytes: q with r left x, p with x left y; p with q left z, z with r left w
pub grouping : (p q r x y z w : List ℕ) → Joins q r x → Joins p x y → Joins p q z → Joins z r w → y ≡ w
grouping p q r x y z w qr px pq zr =
    joined_is p x y px
    ∙ ap (joined Unix p) (joined_is q r x qr)
    ∙ join_grouping p q r
    ∙ sym (joined_is z r w zr ∙ ap (λ (u : List ℕ). joined Unix u r) (joined_is p q z pq))

relative_bare : (q : List ℕ) → is_absolute Unix q ≡ false → sep_at Unix q 0 ≡ false
unfolding is_absolute has_root start_of dir_of
relative_bare q e = split (sep_at Unix q 0) (λ b. absurd (false≢true (sym (rw b at e)))) (λ b. b)

-- a relative q joined to a nonempty p has p's components, then q's less a leading dot
pub components : (p q x : List ℕ) → (length p ≡ 0 → ⊥) → is_absolute Unix q ≡ false → Joins p q x
    → values_of Unix x ≡ values_of Unix p ++ undotted (values_of Unix q)
components p q x h e j = ap (values_of Unix) (joined_is p q x j) ∙ join_components p q h (relative_bare q e)

strip_passes : (s t : List ℕ) (v : View) → v ≡ told refused_view (strip_call 0 s t) → v.reply ≡ Done → v ≡ told refused_view (strip_of Unix s t)
unfolding pair_call seps_of
strip_passes s t v e d =
    let m = told_passes reply_in refused_view (λ r. refl) _ Mode _ v e (λ f. apart d f (λ z. omega arith)) in
    let l = told_passes reply_in refused_view (λ r. refl) _ Length _ v m.1 (λ f. apart d f (λ z. omega arith)) in
    (told_passes reply_in refused_view (λ r. refl) _ Length _ v l.1 (λ f. apart d f (λ z. omega arith))).1

strip_result : (s t : List ℕ) (v : View) → v ≡ told refused_view (strip_of Unix s t) → v.reply ≡ Done → strip_of Unix s t ≡ give v
unfolding strip_of guard told
strip_result s t v e d =
    split (starts_of Unix s t)
    (λ b. rw b (ap (λ (u : View). give u) (sym (rw b at e))))
    (λ b. absurd (apart d (ap reply_in (rw b at e)) (λ z. omega arith)))

-- if a base can be stripped, joining what remains back gives the path's own component list: strip_prefix of s and t was answered
-- Done with the view v, and t with the bytes of s in that view left x
pub strip_back : (s t : List ℕ) (v : View) (x : List ℕ) → v ≡ told refused_view (strip_call 0 s t) → v.reply ≡ Done
    → Joins t (bytes_at s v.start v.len) x → values_of Unix x ≡ values_of Unix s
strip_back s t v x e d j = ap (values_of Unix) (joined_is t _ x j) ∙ strip_joins s t v (strip_result s t v (strip_passes s t v e d) d)
