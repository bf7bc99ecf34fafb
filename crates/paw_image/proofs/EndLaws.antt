-- The last of all bytes: what is left after rows at their front is the last of them too.
use Rattle.std.proofs.Common.{◌≡◌, ℕ, ◌+◌, ◌-◌, ◌≤◌, Bool, length, drop, Ok, refl, sym, ap, subst, ◌∙◌, arith}
use Rattle.std.specs.List.{flat_map}
use Rattle.std.proofs.lemmas.List.{drop_at, drop-drop, length-drop, get_or-drop}
use Rattle.paw_base.specs.Bytes.{Bytes}
use Rattle.paw_game.specs.Image.{two_bytes, text_image, object_image, exits_image, entry_image, table_image}
use Rattle.paw_game.specs.Valid.{is_within, is_text, is_object, exits_are_valid}
use Rattle.paw_image.specs.inner.Milestones.{IsEnd}
use Rattle.paw_image.specs.Damage.{ImagePreface, Passing, each, checked_number, after_text, after_object, after_exits}
use Rattle.paw_image.specs.Damage.{after_entry, after_table}
use Rattle.paw_image.specs.Reading.{Reading, number_at}
use Rattle.paw_image.specs.inner.Reading.{sized_text_at, object_at, exits_at}
use Rattle.paw_image.proofs.FieldLaws.{IsBytes, Takes, at_ok, bind_then, follows_ok, number_takes}
use Rattle.paw_image.proofs.ListLaws.{TakesRow}
use Rattle.paw_image.proofs.RowLaws.{text_takes, object_takes, exits_take, entry_takes, table_takes}
use Rattle.paw_image.proofs.SoundRows.{text_sound, object_sound, exits_sound, entry_sound, table_begins}
use Rattle.paw_image.proofs.Stands.{SoundRow, each_sound, taken_length}

-- ---- the last of all bytes ----

pub end_whole : (bytes : Bytes) → IsEnd bytes bytes
end_whole bytes = let none : length bytes - length bytes ≡ 0 = omega arith in rw none refl

pub end_taken : (bytes text rest : Bytes) → Takes bytes text rest → IsEnd bytes rest
end_taken bytes text rest t =
    let n : length bytes - length rest ≡ length text = omega (arith, taken_length bytes text rest t) in
    rw n (ap (drop (length text)) t.parts ∙ drop_at text rest (length text) refl)

pub end_length : (all bytes : Bytes) → IsEnd all bytes → length bytes ≤ length all
end_length all bytes p = omega (arith, length-drop (length all - length bytes) all, ap (λ (l : Bytes). length l) p)

pub end_of_end : (all bytes rest : Bytes) → IsEnd all bytes → IsEnd bytes rest → IsEnd all rest
end_of_end all bytes rest p q =
    let before = length all - length bytes in
    let between = length bytes - length rest in
    let n : length all - length rest ≡ before + between = omega (arith, end_length all bytes p, end_length bytes rest q) in
    rw n (sym (drop-drop between before all) ∙ ap (drop between) p ∙ q)

pub end_fits : (all bytes : Bytes) → IsBytes all → IsEnd all bytes → IsBytes bytes
end_fits all bytes fits p =
    subst IsBytes p (λ i. rw (get_or-drop (length all - length bytes) all i 0) (fits (length all - length bytes + i)))

-- ---- after rows ----

module _ (all bytes rest : Bytes) (fits : IsBytes all) (end : IsEnd all bytes) where
  pub rows_end : {A : Type 0} (pass : Bytes → Passing) (row : Bytes → Reading A) (image : A → Bytes) (rule : A → Bool)
      → TakesRow row image → SoundRow pass row rule → (n : ℕ) → each pass n bytes ≡ Ok rest → IsEnd all rest
  rows_end pass row image rule takes sound n e =
      let here = end_fits all bytes fits end in
      let rows = each_sound pass row image rule takes sound n bytes rest here e in
      end_of_end all bytes rest end (end_taken bytes (flat_map image rows.value) rest rows.taken)

  pub texts_end : (n : ℕ) → each after_text n bytes ≡ Ok rest → IsEnd all rest
  texts_end n e = rows_end after_text sized_text_at text_image is_text text_takes text_sound n e

  pub objects_end : (d : ImagePreface) (n : ℕ) → each (after_object d) n bytes ≡ Ok rest → IsEnd all rest
  objects_end d n e =
      rows_end (after_object d) object_at object_image (is_object d.words d.counts.locations) object_takes (object_sound d) n e

  pub exits_end : (d : ImagePreface) (n : ℕ) → each (after_exits d) n bytes ≡ Ok rest → IsEnd all rest
  exits_end d n e =
      rows_end (after_exits d) exits_at exits_image (exits_are_valid d.words d.counts.locations) exits_take (exits_sound d) n e

  pub entry_end : (d : ImagePreface) → after_entry d bytes ≡ Ok rest → IsEnd all rest
  entry_end d e =
      let here = end_fits all bytes fits end in
      let entry = entry_sound d bytes rest here e in
      end_of_end all bytes rest end (end_taken bytes (entry_image entry.value) rest (entry_takes bytes (entry.value, rest) here entry.reads))

  pub table_end : (d : ImagePreface) → after_table d bytes ≡ Ok rest → IsEnd all rest
  table_end d e =
      let here = end_fits all bytes fits end in
      let table = table_begins d bytes rest here e in
      end_of_end all bytes rest end (end_taken bytes (table_image table.value) rest (table_takes bytes (table.value, rest) here table.reads))

  pub within_end : (least most n : ℕ) → checked_number least most bytes ≡ Ok (n, rest) → IsEnd all rest
  within_end least most n e =
      let here = end_fits all bytes fits end in
      bind_then _ (number_at bytes) _ (n, rest) e (λ x x_ok e.
      let both = follows_ok (is_within least most x.0) (Ok x) (length bytes) (n, rest) e in
      let taken = (number_takes bytes x here x_ok).0 in
      at_ok (λ (y : ℕ × Bytes). IsEnd all y.1) x (n, rest) both.1 (end_of_end all bytes x.1 end (end_taken bytes (two_bytes x.0) x.1 taken)))
