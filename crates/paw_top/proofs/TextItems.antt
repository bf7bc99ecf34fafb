-- The printed texts of a section are read as its texts.
use Rattle.std.proofs.Common.{◌≡◌, ℕ, suc, ◌<◌, ◌≤◌, Bool, true, false, not, eqb, ltb, leb, [], ◌∷◌, ◌++◌, length}
use Rattle.std.proofs.Common.{Result, Ok, refl, ap, ◌∙◌}
use Rattle.std.proofs.Common.{arith, length-append}
use Rattle.std.specs.List.{list_all, flat_map}
use Rattle.std.proofs.lemmas.Bool.{and_parts, leb-true, le-ltb, lt-ltb, eq-eqb, ne_eqb}
use Rattle.std.proofs.lemmas.List.{append_assoc, append-nil}
use Rattle.paw_base.specs.Bytes.{Texts, Line, Lines, Text}
use Rattle.paw_base.specs.declared.limits.TheConstants.{TEXT_LIMIT}
use Rattle.paw_base.specs.declared.fault.SourceKind.{SourceKind}
use Rattle.paw_game.specs.Valid.{is_text, is_printed}
use Rattle.paw_grammar.specs.declared.section.Section.{Section}
use Rattle.paw_grammar.specs.declared.section.Section.TheVariants as section
use Rattle.paw_read_error.specs.Bind.{◌>>=◌}
use Rattle.paw_grammar.specs.GrammarState.{Spelt}
use Rattle.paw_grammar.specs.GrammarTexts.{texts_of, with_texts, text_limit, text_item, is_in_text, with_line}
use Rattle.paw_grammar.specs.GrammarTexts.{text_line}
use Rattle.paw_grammar.specs.GrammarHeads.{new_text, item_in}
use Rattle.paw_print.specs.Lines.{item_token, lines_of_text, text_lines}
use Rattle.paw_print.specs.Canonical.{numbered_lines}
use Rattle.paw_top.proofs.After.{LineReads, Reads, reads_none, reads_line, reads_append}
use Rattle.paw_top.proofs.Rows.{text_next, plain_printed}
use Rattle.paw_top.proofs.Digits.{plain-item, item_begins}
use Rattle.paw_top.proofs.Lasts.{last_or-push, with_last-push}
use Rattle.paw_top.proofs.Split.{HasLine, has_line, split, split_some, rejoined, rejoined-split, is_line}
use Rattle.paw_top.proofs.Split.{split_is_lines, TextLine, text_line_is}

-- ---- the texts of a section ----

-- A section of texts.
abbrev pub is_text_section : Section → Bool
is_text_section s = ltb 0 (text_limit s)

texts-with : (s : Section) (b : Bool) (ts : Texts) (d : Spelt) → is_text_section s ≡ true →
    (texts_of s (with_texts s b ts d) ≡ ts) × ((with_texts s b ts d).begun ≡ b)
texts-with section.Before b ts d h = absurd cc
texts-with section.Voc b ts d h = absurd cc
texts-with section.Stx b ts d h = (refl, refl)
texts-with section.Mtx b ts d h = (refl, refl)
texts-with section.Otx b ts d h = (refl, refl)
texts-with section.Ltx b ts d h = (refl, refl)
texts-with section.Con b ts d h = absurd cc
texts-with section.Obj b ts d h = absurd cc
texts-with section.Pro b ts d h = absurd cc

section-with : (s : Section) (b : Bool) (ts : Texts) (d : Spelt) → (with_texts s b ts d).section ≡ d.section
section-with section.Before b ts d = refl
section-with section.Voc b ts d = refl
section-with section.Stx b ts d = refl
section-with section.Mtx b ts d = refl
section-with section.Otx b ts d = refl
section-with section.Ltx b ts d = refl
section-with section.Con b ts d = refl
section-with section.Obj b ts d = refl
section-with section.Pro b ts d = refl

with-with : (s : Section) (b c : Bool) (ts us : Texts) (d : Spelt) → with_texts s c us (with_texts s b ts d) ≡ with_texts s c us d
with-with section.Before b c ts us d = refl
with-with section.Voc b c ts us d = refl
with-with section.Stx b c ts us d = refl
with-with section.Mtx b c ts us d = refl
with-with section.Otx b c ts us d = refl
with-with section.Ltx b c ts us d = refl
with-with section.Con b c ts us d = refl
with-with section.Obj b c ts us d = refl
with-with section.Pro b c ts us d = refl

item_in-text : (s : Section) (d : Spelt) (n : ℕ) → is_text_section s ≡ true → item_in s d n ≡ new_text s d n
item_in-text section.Before d n h = absurd cc
item_in-text section.Voc d n h = absurd cc
item_in-text section.Stx d n h = refl
item_in-text section.Mtx d n h = refl
item_in-text section.Otx d n h = refl
item_in-text section.Ltx d n h = refl
item_in-text section.Con d n h = absurd cc
item_in-text section.Obj d n h = absurd cc
item_in-text section.Pro d n h = absurd cc

small_limit : (s : Section) → text_limit s ≤ 256
small_limit section.Before = omega arith
small_limit section.Voc = omega arith
small_limit section.Stx = omega arith
small_limit section.Mtx = omega arith
small_limit section.Otx = omega arith
small_limit section.Ltx = omega arith
small_limit section.Con = omega arith
small_limit section.Obj = omega arith
small_limit section.Pro = omega arith

-- ---- one line of a text ----

in_text : (s : Section) (b : Bool) (before : Texts) (t : Text) (d : Spelt) → d.section ≡ s →
    is_text_section s ≡ true → is_in_text (with_texts s b (before ++ t ∷ []) d) ≡ true
in_text s b before t d at text =
    let some : eqb (length (before ++ t ∷ [])) 0 ≡ false = ne_eqb _ 0 (λ e. omega (arith, length-append before (t ∷ []))) in
    let e : Spelt = with_texts s b (before ++ t ∷ []) d in
    let here : e.section ≡ s = section-with s b (before ++ t ∷ []) d ∙ at in
    ap (λ x. not (eqb (length (texts_of x e)) 0)) here
    ∙ rw ((texts-with s b (before ++ t ∷ []) d text).0, some) refl

line_joined : (b : Bool) (before : Texts) (t : Text) (l : Line) → length (with_line b t l) ≤ TEXT_LIMIT →
    text_line b l (before ++ t ∷ []) ≡ Ok (before ++ with_line b t l ∷ [])
line_joined b before t l short =
    let within : ltb TEXT_LIMIT (length (with_line b t l)) ≡ false = le-ltb TEXT_LIMIT (length (with_line b t l)) short in
    rw (last_or-push [] before t, within, with_last-push (with_line b t l) before t) refl

line_next : (p : ℕ) (s : Section) (b : Bool) (d : Spelt) (before : Texts) (t : Text) (l : Line) → d.section ≡ s →
    is_text_section s ≡ true → TextLine l → length (with_line b t l) ≤ TEXT_LIMIT
    → LineReads p (with_texts s b (before ++ t ∷ []) d) l (with_texts s true (before ++ with_line b t l ∷ []) d)
line_next p s b d before t l at text line short =
    let ts : Texts = before ++ t ∷ [] in
    let e : Spelt = with_texts s b ts d in
    let here : e.section ≡ s = section-with s b ts d ∙ at in
    record {
      printed = line.printed;
      is =
          text_next p e l line.printed line.slash line.comment (in_text s b before t d at text)
          ∙ ap (λ x. text_line e.begun l (texts_of x e) >>= λ us. Ok (with_texts x true us e)) here
          ∙ ap (λ x. text_line x l (texts_of s e) >>= λ us. Ok (with_texts s true us e)) (texts-with s b ts d text).1
          ∙ ap (λ (us : Texts). text_line b l us >>= λ vs. Ok (with_texts s true vs e)) (texts-with s b ts d text).0
          ∙ ap (λ (r : Result Texts SourceKind). r >>= λ vs. Ok (with_texts s true vs e)) (line_joined b before t l short)
          ∙ ap Ok (with-with s b true ts (before ++ with_line b t l ∷ []) d);
    }

-- ---- a text ----

more_lines : (p : ℕ) (s : Section) (d : Spelt) (before : Texts) (t : Text) (ls : Lines) → d.section ≡ s → is_text_section s ≡ true
    → list_all is_line ls ≡ true → length (t ++ flat_map (λ m. 10 ∷ m) ls) ≤ TEXT_LIMIT
    → Reads p (with_texts s true (before ++ t ∷ []) d) ls (with_texts s true (before ++ (t ++ flat_map (λ m. 10 ∷ m) ls) ∷ []) d)
more_lines p s d before t [] at text lines short = rw (append-nil t) (reads_none p (with_texts s true (before ++ t ∷ []) d))
more_lines p s d before t (l ∷ ls) at text lines short =
    let both = and_parts (is_line l) (list_all is_line ls) lines in
    let more : Text = flat_map (λ m. 10 ∷ m) ls in
    let same : (t ++ 10 ∷ l) ++ more ≡ t ++ (10 ∷ l ++ more) = append_assoc t (10 ∷ l) more in
    let whole : length ((t ++ 10 ∷ l) ++ more) ≤ TEXT_LIMIT = rw same short in
    let first : length (t ++ 10 ∷ l) ≤ TEXT_LIMIT = omega (arith, length-append (t ++ 10 ∷ l) more, whole) in
    reads_line p _ _ _ l ls (line_next p s true d before t l at text (text_line_is l both.0) first)
    (rw same at (more_lines p s d before (t ++ 10 ∷ l) ls at text both.1 whole))

-- A state in which the texts are these.
abbrev pub Then : ℕ → Section → Spelt → Spelt → Lines → Texts → Type 0
Then p s d e lines texts = (b : Bool) × Reads p e lines (with_texts s b texts d)

whole_text : (p : ℕ) (s : Section) (d : Spelt) (before : Texts) (t : Text) (ls : Lines) → d.section ≡ s → is_text_section s ≡ true
    → HasLine ls → list_all is_line ls ≡ true → rejoined ls ≡ t → length t ≤ TEXT_LIMIT →
    Then p s d (with_texts s false (before ++ [] ∷ []) d) ls (before ++ t ∷ [])
whole_text p s d before t ls at text (has_line l ms are) lines is short =
    let both = and_parts (is_line l) (list_all is_line ms) (rw are at lines) in
    let same : l ++ flat_map (λ m. 10 ∷ m) ms ≡ t = rw are at is in
    let whole : length (l ++ flat_map (λ m. 10 ∷ m) ms) ≤ TEXT_LIMIT = rw same short in
    let first : length l ≤ TEXT_LIMIT = omega (arith, length-append l (flat_map (λ m. 10 ∷ m) ms), whole) in
    rw are (
      true,
      reads_line p _ _ _ l ms (line_next p s false d before [] l at text (text_line_is l both.0) first)
          (rw same at (more_lines p s d before l ms at text both.1 whole)),
    )

text_read : (p : ℕ) (s : Section) (d : Spelt) (before : Texts) (t : Text) → d.section ≡ s → is_text_section s ≡ true → is_text t ≡ true
    → Then p s d (with_texts s false (before ++ [] ∷ []) d) (lines_of_text t) (before ++ t ∷ [])
text_read p s d before [] at text h = (false, reads_none p (with_texts s false (before ++ [] ∷ []) d))
text_read p s d before (b ∷ bs) at text h =
    let both = and_parts (leb (length (b ∷ bs)) TEXT_LIMIT) (is_printed true (b ∷ bs)) h in
    whole_text p s d before (b ∷ bs) (split (b ∷ bs)) at text (split_some (b ∷ bs)) (split_is_lines (b ∷ bs) both.1)
    (rejoined-split (b ∷ bs)) (leb-true _ TEXT_LIMIT both.0)

-- ---- items ----

item_next : (p : ℕ) (s : Section) (b : Bool) (d : Spelt) (before : Texts) (n : ℕ) → d.section ≡ s →
    is_text_section s ≡ true → n ≡ length before → n < text_limit s
    → LineReads p (with_texts s b before d) (item_token n) (with_texts s false (before ++ [] ∷ []) d)
item_next p s b d before n at text is room =
    let e : Spelt = with_texts s b before d in
    let small : n ≤ 65535 = omega (arith, small_limit s) in
    let here : e.section ≡ s = section-with s b before d ∙ at in
    let next : eqb n (length before) ≡ true = eq-eqb n (length before) is in
    let below : ltb (length before) (text_limit s) ≡ true = lt-ltb _ _ (omega arith) in
    record {
      printed = plain_printed (item_token n) (plain-item n small);
      is =
          item_begins p e n small
          ∙ ap (λ x. item_in x e n) here
          ∙ item_in-text s e n text
          ∙ ap (λ (us : Texts). text_item (text_limit s) n us >>= λ vs. Ok (with_texts s false vs e)) (texts-with s b before d text).0
          ∙ rw (next, below) (ap Ok (with-with s b false before (before ++ [] ∷ []) d));
    }

-- The items of texts after those that were read.
pub items_read : (p : ℕ) (s : Section) (b : Bool) (d : Spelt) (before : Texts) (n : ℕ) (texts : Texts) →
    d.section ≡ s → is_text_section s ≡ true
    → n ≡ length before → length (before ++ texts) ≤ text_limit s → list_all is_text texts ≡ true →
    Then p s d (with_texts s b before d) (numbered_lines text_lines n texts) (before ++ texts)
items_read p s b d before n [] at text is room all = rw (append-nil before) (b, reads_none p (with_texts s b before d))
items_read p s b d before n (t ∷ ts) at text is room all =
    let both = and_parts (is_text t) (list_all is_text ts) all in
    let same : (before ++ t ∷ []) ++ ts ≡ before ++ t ∷ ts = append_assoc before (t ∷ []) ts in
    let next : suc n ≡ length (before ++ t ∷ []) = omega (arith, length-append before (t ∷ [])) in
    let below : n < text_limit s = omega (arith, length-append before (t ∷ ts), room) in
    let first = text_read p s d before t at text both.0 in
    let rest = rw same at (items_read p s first.0 d (before ++ t ∷ []) (suc n) ts at text next (rw same room) both.1) in
    (rest.0, reads_line p _ _ _ _ _ (item_next p s b d before n at text is below) (reads_append p _ _ _ _ _ first.1 rest.1))
