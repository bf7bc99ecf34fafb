-- The row of files, one line after another from after.
use Rattle.std.proofs.Common.{◌≡◌, ℕ, zero, suc, ◌<◌, ◌-◌, ◌==◌, ◌++◌, false, [], ◌∷◌, length, get_or, slice_get, Some, Result, Ok, Err}
use Rattle.std.proofs.Common.{refl, sym, ap, ◌∙◌, arith}
use Rattle.std.specs.List.{list_any}
use Rattle.std.proofs.lemmas.Option.{slice_get_read}
use Rattle.paw_base.specs.Bytes.{Name}
use Rattle.paw_read_error.specs.Bind.{◌>>=◌}
use Rattle.paw_read_error.specs.declared.read_error.ReadError.{ReadError}
use Rattle.paw_read_error.specs.declared.read_error.ReadError.TheVariants.{Memory, Fault}
use Rattle.paw_read_error.specs.inner.Gives.{Fails}
use Rattle.paw_author.specs.declared.mistake.Mistake.{Mistake}
use Rattle.paw_author.specs.Fragments.{Fragments, LinesInParts}
use Rattle.paw_author.specs.Includes.{ReadFile, ReadFiles, FileOrder, line_before, lines_before, file_before}

regrouped : {A B C : Type 0} (r : Result A Mistake) (f : A → Result B Mistake) (g : B → Result C Mistake)
    → ((r >>= f) >>= g) ≡ (r >>= λ x. f x >>= g)
regrouped (Ok x) f g = refl
regrouped (Err e) f g = refl

onward : {A B : Type 0} (r : Result A Mistake) (f g : A → Result B Mistake) → ((x : A) → f x ≡ g x) → (r >>= f) ≡ (r >>= g)
onward (Ok x) f g h = h x
onward (Err e) f g h = refl

alone : {A : Type 0} (r : Result A Mistake) → (r >>= λ x. Ok x) ≡ r
alone (Ok x) = refl
alone (Err e) = refl

-- The last of the lines comes first.
pub last_first : (before : ℕ → FileOrder → Result FileOrder Mistake) (files : ReadFiles) (name : Name) (above : LinesInParts) (line : Fragments) (row : FileOrder)
    → lines_before before files name (above ++ line ∷ []) row
    ≡ (line_before before files name line row >>= λ more. lines_before before files name above more)
unfolding lines_before
last_first before files name [] line row = sym (alone (line_before before files name line row))
last_first before files name (first ∷ above) line row =
    ap (λ (r : Result FileOrder Mistake). r >>= λ more. line_before before files name first more) (last_first before files name above line row)
    ∙ regrouped (line_before before files name line row) (λ more. lines_before before files name above more)
    (λ more. line_before before files name first more)

-- ---- one thing after another ----

-- Where the first step fails, so do all.
pub bound_fails : {A B : Type 0} (e : ReadError Mistake) (r : Result A Mistake) (go : A → Result B Mistake) (all : Result B Mistake)
    → all ≡ (r >>= go) → Fails e r → Fails e all
bound_fails Memory r go all h f = tt
bound_fails (Fault m) r go all h f = h ∙ rw f refl

-- Where the first step is done, the others are left.
pub bound_goes_on : {A B : Type 0} (x : A) (r : Result A Mistake) (go : A → Result B Mistake) (all : Result B Mistake)
    → all ≡ (r >>= go) → r ≡ Ok x → all ≡ go x
bound_goes_on x r go all h f = h ∙ rw f refl

-- ---- lines and files ----

pub last_of_left : (before : ℕ → FileOrder → Result FileOrder Mistake) (files : ReadFiles) (name : Name) (left above : LinesInParts) (line : Fragments) (row : FileOrder)
    → left ≡ above ++ line ∷ []
    → lines_before before files name left row
    ≡ (line_before before files name line row >>= λ more. lines_before before files name above more)
last_of_left before files name left above line row e = rw e (last_first before files name above line row)

pub file_goes_on : (depth : ℕ) (files : ReadFiles) (file : ℕ) (own : ReadFile) (row : FileOrder) → (depth ≡ 0 → ⊥)
    → list_any (λ other. other == file) row ≡ false → own ≡ get_or files file own → file < length files
    → file_before depth files file row
    ≡ (lines_before (file_before (depth - 1) files) files own.name own.lines row >>= λ more. Ok (file ∷ more))
unfolding file_before
file_goes_on zero files file own row h k e l = absurd (h refl)
file_goes_on (suc n) files file own row h k e l =
    let less : suc n - 1 ≡ n = omega arith in
    let is : slice_get files file ≡ Some own = slice_get_read files (length files) file own refl l e in
    rw (k, is, less) refl
