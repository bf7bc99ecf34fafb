-- What a function answers that reads something, or finds a fault in it.
use Rattle.std.specs.Prelude.{◌≡◌, Result, Ok, Err}
use Rattle.paw_read_error.specs.declared.read_error.ReadError.{ReadError}
use Rattle.paw_read_error.specs.declared.read_error.ReadError.TheVariants as unread

-- A fault is the one that is read; lack of memory says nothing.
abbrev pub Fails : {B F : Type 0} → ReadError F → Result B F → Type 0
Fails unread.Memory read = Unit {0}
Fails (unread.Fault fault) read = read ≡ Err fault

-- What was answered, seen by `view`, is what is read.
abbrev pub Gives : {A B F : Type 0} → (A → B) → Result A (ReadError F) → Result B F → Type 0
Gives view (Ok x) read = read ≡ Ok (view x)
Gives view (Err e) read = Fails e read
