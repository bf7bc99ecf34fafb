-- Which bytes are the image of a valid game.
use Rattle.std.proofs.Common.{◌≡◌, ℕ, ◌≤◌, length, Ok, Err, refl, sym, ap, subst, ◌∙◌}
use Rattle.paw_game.specs.Game.{GameLists}
use Rattle.paw_game.specs.Valid.{Valid}
use Rattle.paw_game.specs.Image.{image}
use Rattle.paw_read_error.specs.declared.read_error.ReadError.TheVariants as unread
use Rattle.paw_base.specs.Bytes.{Bytes}
use Rattle.paw_base.specs.declared.limits.TheConstants.{IMAGE_LIMIT}
use Rattle.paw_image.specs.Images.{IsImage}
use Rattle.paw_read_error.specs.inner.Gives.{Fails}
use Rattle.paw_image.specs.inner.Reading.{all_of}
use Rattle.paw_image.proofs.FieldLaws.{IsBytes, read_ok}
use Rattle.paw_image.proofs.GameLaws.{all_takes, all_again}

-- Bytes that are the image of a valid game are read as that game.
pub image_again : (bytes : Bytes) (g : GameLists) → Valid g → bytes ≡ image g → all_of bytes ≡ read_ok g
image_again bytes g valid e = ap all_of e ∙ all_again g valid

-- Two valid games with the same image are the same.
pub one_game : (g h : GameLists) → Valid g → Valid h → image g ≡ image h → g ≡ h
one_game g h g_valid h_valid e =
    let first = image_again (image g) g g_valid refl in
    let second = image_again (image g) h h_valid e in
    cc

-- Bytes that aren't read are no image.
pub unread_is_none : (bytes : Bytes) (left : ℕ) → all_of bytes ≡ Err left → (g : GameLists) → IsImage bytes g → ⊥
unread_is_none bytes left e g is = let again = image_again bytes g is.valid is.spelled in cc

-- Bytes that are read as lists that break a rule are no image.
pub invalid_is_none : (bytes : Bytes) (parts : GameLists) → all_of bytes ≡ Ok parts → (Valid parts → ⊥) → (g : GameLists) → IsImage bytes g → ⊥
invalid_is_none bytes parts e invalid g is =
    let again = image_again bytes g is.valid is.spelled in
    let same : g ≡ parts = cc in
    invalid (subst Valid same is.valid)

-- What a refusal says of bytes that aren't read.
pub fault_is_none : (bytes : Bytes) (left : ℕ) → Fails (unread.Fault left) (all_of bytes) → (g : GameLists) → IsImage bytes g → ⊥
fault_is_none bytes left e = unread_is_none bytes left e

-- Bytes that are read as the lists of a game are its image, and that of no other.
pub read_is_image : (bytes : Bytes) (parts g : GameLists) → IsBytes bytes → length bytes ≤ IMAGE_LIMIT
    → all_of bytes ≡ Ok parts → g ≡ parts → Valid parts → IsImage bytes g
read_is_image bytes parts g fits short e same valid = rw same (record { spelled = all_takes bytes parts fits e; valid = valid; short = short })

pub read_is_only : (bytes : Bytes) (parts g : GameLists) → all_of bytes ≡ Ok parts → g ≡ parts → (h : GameLists) → IsImage bytes h → g ≡ h
read_is_only bytes parts g e same h is = let again = image_again bytes h is.valid is.spelled in cc

pub one_image : (bytes : Bytes) (g h : GameLists) → IsImage bytes g → IsImage bytes h → g ≡ h
one_image bytes g h is also = one_game g h is.valid also.valid (sym is.spelled ∙ also.spelled)
