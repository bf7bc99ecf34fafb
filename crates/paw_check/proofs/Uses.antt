-- How much of the open piece is used: condacts that were read for it, or bytes that it has.
use Rattle.std.proofs.Common.{◌≡◌, ℕ, zero, suc, ◌+◌, ◌≤◌, Bool, false, List, [], ◌∷◌, ◌++◌, length, arith}
use Rattle.std.proofs.Common.{length-append}
use Rattle.std.specs.Prelude.{All}
use Rattle.std.proofs.lemmas.Bool.{leb-false}
use Rattle.std.proofs.lemmas.List.Elements.{All-append}
use Rattle.paw_base.specs.Bytes.{Text, Texts}
use Rattle.paw_base.specs.declared.limits.TheConstants.{READ_LIMIT, PIECE_LIMIT}
use Rattle.paw_base.specs.declared.parts.Condact.{Condact}
use Rattle.paw_base.specs.declared.fault.SpentKind.{SpentKind}
use Rattle.paw_base.specs.declared.fault.SpentKind.TheVariants as spent
use Rattle.paw_game.specs.Game.{GameLists}
use Rattle.paw_reading.specs.declared.frames.Frame.{Frame}
use Rattle.paw_reading.specs.Run.{Run, StepRow, fits, text_printed}
use Rattle.paw_reading.specs.Reading.{step_at, step_noted}
use Rattle.paw_check.specs.Prints.{most_text}

-- Of two amounts that of this kind.
abbrev pub of_kind : SpentKind → ℕ → ℕ → ℕ
of_kind spent.Condacts reads bytes = reads
of_kind spent.Text reads bytes = bytes

-- What a run has used of its open piece.
abbrev pub used : SpentKind → Run → ℕ
used kind r = of_kind kind (length r.read) (length r.current)

-- What a condact uses of its own.
abbrev pub own_of : SpentKind → GameLists → Condact → ℕ
own_of kind g c = of_kind kind 1 (most_text g c)

-- Each closed piece has used at most so much.
abbrev pub Closed : SpentKind → ℕ → List (List StepRow) → Texts → Type 0
Closed spent.Condacts limit traces pieces = All (λ trace. length trace ≤ limit) traces
Closed spent.Text limit traces pieces = All (λ piece. length piece ≤ limit) pieces

-- A piece may be spent in another way than this.
abbrev pub Another : SpentKind → SpentKind → Type 0
Another spent.Condacts spent.Condacts = ⊥
Another spent.Condacts spent.Text = Unit {0}
Another spent.Text spent.Condacts = Unit {0}
Another spent.Text spent.Text = ⊥

-- ---- what is used ----

-- At the start of a piece nothing is.
pub nothing : (kind : SpentKind) → of_kind kind 0 0 ≤ 0
nothing spent.Condacts = omega arith
nothing spent.Text = omega arith

pub noted_use : (kind : SpentKind) (g : GameLists) (r : Run) (f : Frame) (c : Condact) (b : Bool) →
    used kind (step_noted f c b r) ≤ used kind r + own_of kind g c
noted_use spent.Condacts g r f c b = omega (arith, length-append r.read (step_at f c b ∷ []))
noted_use spent.Text g r f c b = omega arith

pub printed_use : (kind : SpentKind) (g : GameLists) (r : Run) (f : Frame) (c : Condact) (b : Bool) (text : Text) →
    length text ≤ most_text g c → used kind (text_printed text (step_noted f c b r)) ≤ used kind r + own_of kind g c
printed_use spent.Condacts g r f c b text h = omega (arith, length-append r.read (step_at f c b ∷ []))
printed_use spent.Text g r f c b text h = omega (arith, length-append r.current text)

-- A text is printed at the start of a piece.
pub first_use : (kind : SpentKind) (limit : ℕ) (r : Run) (text : Text) → used kind r ≤ 0 → of_kind kind 0 (length text) ≤ limit →
    used kind (text_printed text r) ≤ limit
first_use spent.Condacts limit r text h k = omega arith
first_use spent.Text limit r text h k = omega (arith, length-append r.current text)

one : {A : Type 0} (limit : ℕ) (xs : List A) → length xs ≤ limit → All (λ ys. length ys ≤ limit) (xs ∷ [])
one limit xs h zero d low = h
one limit xs h (suc k) d low = absurd (omega arith)

-- One piece more is closed.
pub closed_more : (kind : SpentKind) (limit : ℕ) (r : Run) → used kind r ≤ limit → Closed kind limit r.traces r.pieces →
    Closed kind limit (r.traces ++ r.read ∷ []) (r.pieces ++ r.current ∷ [])
closed_more spent.Condacts limit r h k = All-append (λ trace. length trace ≤ limit) r.traces (r.read ∷ []) k (one limit r.read h)
closed_more spent.Text limit r h k = All-append (λ piece. length piece ≤ limit) r.pieces (r.current ∷ []) k (one limit r.current h)

-- ---- what is never spent ----

-- A condact may be read where what it uses is within the limit.
pub unread : (kind : SpentKind) (g : GameLists) (c : Condact) (r : Run) → used kind r + own_of kind g c ≤ of_kind kind READ_LIMIT PIECE_LIMIT →
    READ_LIMIT ≤ length r.read → Another kind spent.Condacts
unread spent.Condacts g c r h many = absurd (omega (arith, h, many))
unread spent.Text g c r h many = tt

-- A text may be printed where the piece with it is within the limit.
pub unfit : (kind : SpentKind) (r : Run) (text : Text) → used kind (text_printed text r) ≤ of_kind kind READ_LIMIT PIECE_LIMIT → fits r text ≡ false →
    Another kind spent.Text
unfit spent.Condacts r text h e = tt
unfit spent.Text r text h e = absurd (omega (arith, length-append r.current text, leb-false (length r.current + length text) PIECE_LIMIT e))
