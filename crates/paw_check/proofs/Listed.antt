-- How long a list of objects is.
use Rattle.std.proofs.Common.{◌≡◌, ℕ, suc, ◌+◌, ◌*◌, ◌≤◌, ◌==◌, Bool, true, false, List, [], ◌∷◌, ◌++◌, refl, sym, ap}
use Rattle.std.proofs.Common.{subst}
use Rattle.std.proofs.Common.{length, map, max, slice_get, arith, length-append}
use Rattle.std.specs.Prelude.{if◌then◌else◌, not, sum_by, filter}
use Rattle.std.specs.List.{range_with_len}
use Rattle.std.specs.Option.{option_map, unwrap_or}
use Rattle.std.proofs.lemmas.Nat.{mul-le}
use Rattle.std.proofs.lemmas.List.Filters.{sum_by-filter_both, length-filter_both}
use Rattle.std.proofs.lemmas.List.FromFn.{length-range_with_len}
use Rattle.std.proofs.lemmas.List.Sums.{sum_by-cons}
use Rattle.paw_base.specs.Bytes.{Texts, Text}
use Rattle.paw_base.specs.declared.messages.TheConstants.{SEEN_MESSAGE, INVENTORY_MESSAGE, IS_WORN_MESSAGE}
use Rattle.paw_base.specs.declared.messages.TheConstants.{EMPTY_HANDED_MESSAGE}
use Rattle.paw_base.specs.declared.flags.TheConstants.{LOCATION_FLAG}
use Rattle.paw_base.specs.declared.places.TheConstants.{WORN_PLACE}
use Rattle.paw_game.specs.declared.parts.ObjectRow.{ObjectRow}
use Rattle.paw_game.specs.Game.{GameLists}
use Rattle.paw_world.specs.World.{World, flag, place, is_somewhere}
use Rattle.paw_world.specs.Weight.{objects_at}
use Rattle.paw_effects.specs.Worlds.{IsOf}
use Rattle.paw_effects.specs.Presence.{is_held, held_objects}
use Rattle.paw_effects.specs.Texts.{object_text, put_text, say_text}
use Rattle.paw_effects.specs.Lists.{as_lines, joint, others_joined, as_sentence, lists_are_sentences, list_of}
use Rattle.paw_effects.specs.Lists.{list_or_say, seen_text, texts_at}
use Rattle.paw_effects.specs.Lists.{worn_text, held_text, inventory_text, here_list_text}
use Rattle.paw_check.specs.Measures.{most_put, most_said}
use Rattle.paw_check.specs.Prints.{most_list, most_list_or_said, most_inventory}
use Rattle.paw_check.proofs.Lengths.{put_most, say_most}

-- ---- sums ----

-- The texts of these objects take so much.
abbrev texts_take : (ℕ → Text) → List ℕ → ℕ
texts_take f os = sum_by (λ o. length (f o)) os

takes_more : (f : ℕ → Text) (o : ℕ) (os : List ℕ) → texts_take f (o ∷ os) ≡ length (f o) + texts_take f os
takes_more f o os = sum_by-cons (λ (x : ℕ). length (f x)) o os

-- Each text takes at most so much more.
each_more : (f h : ℕ → Text) (m : ℕ) → ((o : ℕ) → length (h o) ≤ length (f o) + m) → (os : List ℕ)
    → texts_take h os ≤ texts_take f os + length os * m
each_more f h m more [] = omega arith
each_more f h m more (o ∷ os) = omega (arith, more o, each_more f h m more os, takes_more f o os, takes_more h o os)

-- ---- a list in lines, and as a sentence ----

lines_most : (f : ℕ → Text) (os : List ℕ) → length (as_lines (map f os)) ≤ texts_take f os + 5 * length os
lines_most f [] = omega arith
lines_most f (o ∷ os) =
    omega (
      arith,
      lines_most f os,
      takes_more f o os,
      length-append (f o) (10 ∷ []),
      length-append (f o ++ 10 ∷ []) (as_lines (map f os)),
    )

joint_most : (texts : Texts) → length (joint texts) ≤ 5
joint_most [] = omega arith
joint_most (text ∷ texts) = omega arith

others_most : (f : ℕ → Text) (os : List ℕ) → length (others_joined (map f os)) ≤ texts_take f os + 5 * length os + 2
others_most f [] = omega arith
others_most f (o ∷ os) =
    omega (
      arith,
      joint_most (map f os),
      others_most f os,
      takes_more f o os,
      length-append (f o) (others_joined (map f os)),
      length-append (joint (map f os)) (f o ++ others_joined (map f os)),
    )

sentence_most : (f : ℕ → Text) (os : List ℕ) → length (as_sentence (map f os)) ≤ texts_take f os + 5 * length os + 2
sentence_most f [] = omega arith
sentence_most f (o ∷ os) = omega (arith, others_most f os, takes_more f o os, length-append (f o) (others_joined (map f os)))

either_most : (b : Bool) (x y : Text) (n : ℕ) → length x ≤ n → length y ≤ n → length (if b then x else y) ≤ n
either_most true x y n h k = h
either_most false x y n h k = k

listed_most : (w : World) (f : ℕ → Text) (os : List ℕ) → length (list_of w (map f os)) ≤ texts_take f os + 5 * length os + 2
listed_most w f os =
    let lines : length (as_lines (map f os)) ≤ texts_take f os + 5 * length os + 2 = omega (arith, lines_most f os) in
    either_most (lists_are_sentences w) (as_sentence (map f os)) (as_lines (map f os)) (texts_take f os + 5 * length os + 2)
    (sentence_most f os) lines

-- A list, or what is said where it is empty.
list_or_most : (g : GameLists) (w : World) (s n : ℕ) (f : ℕ → Text) (os : List ℕ) → texts_take f os + 5 * length os + 2 ≤ n
    → length (list_or_say g w s (map f os)) ≤ max n (most_said g s)
list_or_most g w s n f [] within = omega (arith, say_most g w s)
list_or_most g w s n f (o ∷ os) within = omega (arith, listed_most w f (o ∷ os))

seen_most : (g : GameLists) (w : World) (n : ℕ) (f : ℕ → Text) (os : List ℕ) → texts_take f os + 5 * length os + 2 ≤ n
    → length (seen_text g w (map f os)) ≤ most_said g SEEN_MESSAGE + n
seen_most g w n f [] within = omega arith
seen_most g w n f (o ∷ os) within =
    omega (
      arith,
      say_most g w SEEN_MESSAGE,
      listed_most w f (o ∷ os),
      length-append (say_text g w SEEN_MESSAGE) (list_of w (map f (o ∷ os))),
    )

-- ---- the objects of a game ----

-- The texts of all objects, by their numbers.
numbered : (f : ℕ → Text) (os : List ObjectRow) (a : ℕ)
    → ((i j : ℕ) → j ≡ a + i → f j ≡ unwrap_or (option_map (λ (r : ObjectRow). r.text) (slice_get os i)) [])
    → texts_take f (range_with_len a (length os)) ≡ sum_by (λ (r : ObjectRow). length r.text) os
numbered f [] a at = refl
numbered f (r ∷ os) a at =
    let first : length (f a) ≡ length r.text = ap length (at 0 a (omega arith)) in
    let rest = numbered f os (a + 1) (λ i j e. at (suc i) j (omega arith)) in
    omega (
      arith,
      first,
      rest,
      takes_more f a (range_with_len (a + 1) (length os)),
      sum_by-cons (λ (x : ObjectRow). length x.text) r os,
    )

all_texts : (g : GameLists) → texts_take (object_text g) (range_with_len 0 (length g.objects)) ≡ sum_by (λ (r : ObjectRow). length r.text) g.objects
all_texts g = numbered (object_text g) g.objects 0 (λ i j e. let same : j ≡ i = omega arith in ap (object_text g) same)

module _ (g : GameLists) (w : World) (of : IsOf g w) (test : ℕ → Bool) where
  -- Those of all objects that pass a test.
  abbrev some : List ℕ
  some = filter test (range_with_len 0 (length w.places))

  -- Are as many as all at most.
  some_count : length some ≤ length g.objects
  some_count =
      omega (
        arith,
        length-filter_both test (λ o. not (test o)) (λ o. refl) (range_with_len 0 (length w.places)),
        length-range_with_len 0 (length w.places),
        of.places,
      )

  -- And their texts take as much as those of all at most.
  some_take : texts_take (object_text g) some ≤ sum_by (λ (r : ObjectRow). length r.text) g.objects
  some_take =
      let all : texts_take (object_text g) (range_with_len 0 (length w.places)) ≡ sum_by (λ (r : ObjectRow). length r.text) g.objects =
      subst (λ n. texts_take (object_text g) (range_with_len 0 n) ≡ sum_by (λ (r : ObjectRow). length r.text) g.objects) (sym of.places) (all_texts g) in
      omega (
        arith,
        all,
        sum_by-filter_both test (λ o. not (test o)) (λ o. refl) (λ o. length (object_text g o)) (range_with_len 0 (length w.places)),
      )

  pub some_within : texts_take (object_text g) some + 5 * length some + 2 ≤ most_list g
  some_within = omega (arith, some_take, some_count)

-- ---- what is worn ----

worn_most : (g : GameLists) (w : World) (o : ℕ) → length (worn_text g w o) ≤ most_put g IS_WORN_MESSAGE
worn_most g w o = either_most (place w o == WORN_PLACE) (put_text g w IS_WORN_MESSAGE) [] (most_put g IS_WORN_MESSAGE)
    (put_most g w IS_WORN_MESSAGE) (omega arith)

held_most : (g : GameLists) (w : World) (o : ℕ) → length (held_text g w o) ≤ length (object_text g o) + most_put g IS_WORN_MESSAGE
held_most g w o = omega (arith, worn_most g w o, length-append (object_text g o) (worn_text g w o))

held_within : (g : GameLists) (w : World) → IsOf g w
    → texts_take (held_text g w) (held_objects w) + 5 * length (held_objects w) + 2 ≤ most_list g + length g.objects * most_put g IS_WORN_MESSAGE
held_within g w of =
    omega (
      arith,
      each_more (object_text g) (held_text g w) (most_put g IS_WORN_MESSAGE) (held_most g w) (held_objects w),
      mul-le (length (held_objects w)) (most_put g IS_WORN_MESSAGE) (length g.objects) (most_put g IS_WORN_MESSAGE)
          (some_count g w of (is_held w)) (omega arith),
      some_within g w of (is_held w),
    )

-- ---- the lists of condacts ----

pub inventory_most : (g : GameLists) (w : World) → IsOf g w → length (inventory_text g w) ≤ most_inventory g
inventory_most g w of =
    let held = most_list g + length g.objects * most_put g IS_WORN_MESSAGE in
    omega (
      arith,
      say_most g w INVENTORY_MESSAGE,
      list_or_most g w EMPTY_HANDED_MESSAGE held (held_text g w) (held_objects w) (held_within g w of),
      length-append (say_text g w INVENTORY_MESSAGE) (list_or_say g w EMPTY_HANDED_MESSAGE (map (held_text g w) (held_objects w))),
    )

pub place_list_most : (g : GameLists) (w : World) (s p : ℕ) → IsOf g w → length (list_or_say g w s (texts_at g w p)) ≤ most_list_or_said g s
place_list_most g w s p of = list_or_most g w s (most_list g) (object_text g) (objects_at w p) (some_within g w of (λ o. place w o == p))

pub here_list_most : (g : GameLists) (w : World) → IsOf g w → length (here_list_text g w) ≤ most_said g SEEN_MESSAGE + most_list g
here_list_most g w of =
    let here : ℕ = flag w LOCATION_FLAG in
    either_most (is_somewhere w) (seen_text g w (texts_at g w here)) [] (most_said g SEEN_MESSAGE + most_list g)
    (seen_most g w (most_list g) (object_text g) (objects_at w here) (some_within g w of (λ o. place w o == here))) (omega arith)
