-- Laws of lists made entry by entry.
use mathlib.Core.Path.{sym, ◌≡◌, refl, ap, subst, ◌∙◌}
use mathlib.Core.List.{List, [], ◌∷◌, ◌++◌, append-nil}
use mathlib.Core.Bool.{cond}
use Prim.Native.Nat.{ℕ, zero, suc, ◌+◌, ◌-◌, ◌<◌, ◌≤◌}
use native.Mathlib.Numerals.{add-one}
use native.Mathlib.Decide.{dec_lt}
use native.Mathlib.Omega.{arith}
use lib.ListN.{length, get_or, take, drop, set, length-append, length-drop, drop_of_length-le, get_or-append}
use lib.Dec.{ltb}
use lib.Seq.{ext_get_or, take_at, drop-cons, set_at, get_or_at, append_snoc, get_or-append-add, get_or-drop}
use borrow.Author.Tests.{lt-ltb, le-ltb}
use Rattle.lists.specs.Entries.{up_to, firsts, over}

module _ {A : Type 0} where
  pub length-up_to : (n : ℕ) (f : ℕ → A) → length (up_to n f) ≡ n
  unfolding up_to
  length-up_to zero f = refl
  length-up_to (suc n) f = length-append (up_to n f) (f n ∷ []) ∙ ap (λ (k : ℕ). k + 1) (length-up_to n f) ∙ add-one n

  pub get_d_up_to : (n : ℕ) (f : ℕ → A) (k : ℕ) (d : A) → k < n → get_or (up_to n f) k d ≡ f k
  unfolding up_to
  get_d_up_to zero f k d h = absurd (omega arith)
  get_d_up_to (suc n) f k d h = go (dec_lt k n) (get_d_up_to n f k d)
    where
      go : Dec (k < n) → (k < n → get_or (up_to n f) k d ≡ f k) → get_or (up_to n f ++ (f n ∷ [])) k d ≡ f k
      go (yes l) r = get_or-append (up_to n f) (f n ∷ []) d k (omega (arith, length-up_to n f)) ∙ r l
      go (no l) r =
          let e : k ≡ n = omega arith in
          rw e (get_or_at (up_to n f) (f n) [] d n (length-up_to n f))

  -- two such lists are the same where the entries are
  pub up_to-same : (n : ℕ) (f g : ℕ → A) → ((k : ℕ) → k < n → f k ≡ g k) → up_to n f ≡ up_to n g
  unfolding up_to
  up_to-same zero f g h = refl
  up_to-same (suc n) f g h = rw (up_to-same n f g (λ k l. h k (omega arith)), h n (omega arith))

  -- where a loop that stores begins
  pub firsts-zero : (f : ℕ → A) (old : List A) → old ≡ firsts 0 f old
  unfolding up_to firsts
  firsts-zero f old = refl

  -- a turn of it, which stores f i at i
  pub firsts-turn : (i : ℕ) (f : ℕ → A) (old r : List A) (v : A) → i < length old → r ≡ firsts i f old → v ≡ f i → set r i v ≡ firsts (i + 1) f old
  unfolding up_to firsts
  firsts-turn i f old r v h e g =
      rw (e, g, add-one, drop-cons old i v, set_at (up_to i f) (get_or old i v) (drop (suc i) old) (f i) i (length-up_to i f), append_snoc)

  -- where it ends, if it stored everywhere
  pub firsts-all : (n : ℕ) (f : ℕ → A) (old : List A) → length old ≡ n → firsts n f old ≡ up_to n f
  unfolding firsts
  firsts-all n f old h = rw (drop_of_length-le old {i = n} (omega arith)) (append-nil (up_to n f))

  -- what it reads at or past the place of the turn is still old
  pub firsts-beyond : (i k : ℕ) (f : ℕ → A) (old : List A) (d : A) → get_or (firsts i f old) (i + k) d ≡ get_or old (i + k) d
  unfolding firsts
  firsts-beyond i k f old d =
      subst (λ (n : ℕ). get_or (up_to i f ++ drop i old) (n + k) d ≡ get_or old (i + k) d) (length-up_to i f) (get_or-append-add (up_to i f) (drop i old) k d ∙ get_or-drop i old k d)

  pub length-firsts : (n : ℕ) (f : ℕ → A) (old : List A) → n ≤ length old → length (firsts n f old) ≡ length old
  unfolding firsts
  length-firsts n f old h = omega (arith, length-append (up_to n f) (drop n old), length-up_to n f, length-drop n old)

  -- a loop that lays a list over the front of another begins with nothing
  pub over-nil : (old : List A) → old ≡ over [] old
  unfolding over
  over-nil old = refl

  -- and stores one entry more in a turn
  pub over-snoc : (l old r : List A) (i : ℕ) (v : A) → i ≡ length l → i < length old → r ≡ over l old → set r i v ≡ over (l ++ (v ∷ [])) old
  unfolding over
  over-snoc l old r i v n h e =
      let h' : length l < length old = omega arith in
      rw (e, n, drop-cons old (length l) v, set_at l (get_or old (length l) v) (drop (suc (length l)) old) v (length l) refl, length-append, append_snoc, add-one)

  pub length_over : (l old : List A) → length l ≤ length old → length (over l old) ≡ length old
  unfolding over
  length_over l old h = omega (arith, length-append l (drop (length l) old), length-drop (length l) old)

  -- the front of what it leaves is the list
  pub take_over : (n : ℕ) (l old : List A) → length l ≡ n → take n (over l old) ≡ l
  unfolding over
  take_over n l old e = take_at l _ n e

  -- a turn that lays f i over, after f 0, .., f (i - 1)
  pub over-turn : (i : ℕ) (f : ℕ → A) (old r : List A) (v : A) → i < length old → r ≡ over (up_to i f) old → v ≡ f i → set r i v ≡ over (up_to (i + 1) f) old
  unfolding up_to
  over-turn i f old r v h e g = rw (add-one i, g) (over-snoc (up_to i f) old r i (f i) (sym (length-up_to i f)) h e)

module _ {A : Type 0} where
  -- an entry of a list whose first n entries are f's
  pub firsts-get : (n : ℕ) (f : ℕ → A) (old : List A) (k : ℕ) (d : A) → k < n → get_or (firsts n f old) k d ≡ f k
  unfolding firsts
  firsts-get n f old k d h = get_or-append (up_to n f) _ d k (omega (arith, length-up_to n f)) ∙ get_d_up_to n f k d h

  -- the same, place by place
  pub firsts-cond : (n m : ℕ) (f : ℕ → A) (old : List A) (d : A) → length old ≡ m → n ≤ m → firsts n f old ≡ up_to m (λ k. cond (ltb k n) (f k) (get_or old k d))
  firsts-cond n m f old d size h =
      ext_get_or d (firsts n f old) (up_to m g) (length-firsts n f old (omega arith) ∙ size ∙ sym (length-up_to m g)) (λ i l. at i l (dec_lt i n) ∙ sym (get_d_up_to m g i d (omega (arith, length-firsts n f old (omega arith)))))
    where
      g : ℕ → A
      g k = cond (ltb k n) (f k) (get_or old k d)

      at : (i : ℕ) → i < length (firsts n f old) → Dec (i < n) → get_or (firsts n f old) i d ≡ cond (ltb i n) (f i) (get_or old i d)
      at i l (yes b) = firsts-get n f old i d b ∙ sym (ap (λ b. cond b (f i) (get_or old i d)) (lt-ltb i n b))
      at i l (no b) =
          let e : n + (i - n) ≡ i = omega arith in
          subst (λ k. get_or (firsts n f old) k d ≡ get_or old k d) e (firsts-beyond n (i - n) f old d) ∙ sym (ap (λ b. cond b (f i) (get_or old i d)) (le-ltb i n (omega arith)))

  -- a stretch of entries that stay as they are
  pub firsts-idle : (i j : ℕ) (f : ℕ → A) (old : List A) (d : A) → i ≤ j → j ≤ length old → ((k : ℕ) → i ≤ k → k < j → f k ≡ get_or old k d) → firsts i f old ≡ firsts j f old
  firsts-idle i j f old d le size h =
      firsts-cond i (length old) f old d refl (omega arith)
      ∙ up_to-same (length old) _ _ (λ k l. same k (dec_lt k i) (dec_lt k j)) ∙ sym (firsts-cond j (length old) f old d refl size)
    where
      same : (k : ℕ) → Dec (k < i) → Dec (k < j) → cond (ltb k i) (f k) (get_or old k d) ≡ cond (ltb k j) (f k) (get_or old k d)
      same k (yes a) b = rw (lt-ltb k i a, lt-ltb k j (omega arith))
      same k (no a) (yes b) = rw (le-ltb k i (omega arith), lt-ltb k j b) (sym (h k (omega arith) b))
      same k (no a) (no b) = rw (le-ltb k i (omega arith), le-ltb k j (omega arith))

-- what lies past a list that is laid over another
pub over-beyond : {A : Type 0} (l old : List A) (i : ℕ) (d : A) → length l ≤ i → get_or (over l old) i d ≡ get_or old i d
unfolding over
over-beyond l old i d h =
    let e : length l + (i - length l) ≡ i = omega arith in
    ap (λ x. get_or (l ++ drop (length l) old) x d) (sym e) ∙ get_or-append-add l (drop (length l) old) (i - length l) d ∙ get_or-drop (length l) old (i - length l) d ∙ ap (λ x. get_or old x d) e

pub over-front : {A : Type 0} (l old : List A) (i : ℕ) (d : A) → i < length l → get_or (over l old) i d ≡ get_or l i d
unfolding over
over-front l old i d h = get_or-append l (drop (length l) old) d i h
