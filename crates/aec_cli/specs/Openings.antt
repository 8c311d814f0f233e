-- What a contract sees of the file of a device.
use Rattle.std.specs.Prelude.{◌≡◌, ℕ, Bool, true, false, List, [], Option, None, Some}
use Rattle.aec_cli.specs.declared.files.Opening.{Opening}
use Rattle.aec_cli.specs.declared.files.Opening.TheVariants.{Unopened, Open, Failed}
use Rattle.aec_cli.specs.declared.files.Reading.{Reading}
use Rattle.aec_cli.specs.declared.files.Reading.TheVariants as reading

-- ---- of a sink

-- How often a sink has failed: 0 if its file is not created yet, 1 if the file can't be created;
-- for an open file `failed` counts.
abbrev pub failures_of : {T : Type 0} → (T → ℕ) → Opening T → ℕ
failures_of failed Unopened = 0
failures_of failed (Open file) = failed file
failures_of failed Failed = 1

-- whether the file was created and is open; a write to it may have failed since
abbrev pub is_open : {T : Type 0} → Opening T → Bool
is_open Unopened = false
is_open (Open file) = true
is_open Failed = false

-- whether neither a file was created nor anything has failed
abbrev pub is_unopened : {T : Type 0} → Opening T → Bool
is_unopened Unopened = true
is_unopened (Open file) = false
is_unopened Failed = false

-- Creating the file was tried: now it is open and has not failed, or it can't be created. `failed`
-- counts the failures of an open file.
abbrev pub IsTried : {T : Type 0} → (T → ℕ) → Opening T → Type 0
IsTried failed Unopened = ⊥
IsTried failed (Open file) = failed file ≡ 0
IsTried failed Failed = Unit {0}

-- the bytes that a sink has taken: for an open file those of `bytes`; without one they aren't known
abbrev pub bytes_known : {T : Type 0} → (T → Option (List ℕ)) → Opening T → Option (List ℕ)
bytes_known bytes Unopened = None
bytes_known bytes (Open file) = bytes file
bytes_known bytes Failed = None

-- ---- of a source

-- How often a source has failed: 0 if its file is not opened yet or is closed, 1 if the file can't
-- be opened; for an open file `failed` counts.
abbrev pub failures_read : {T : Type 0} → (T → ℕ) → Reading T → ℕ
failures_read failed reading.Unopened = 0
failures_read failed (reading.Open file) = failed file
failures_read failed reading.Closed = 0
failures_read failed reading.Failed = 1

-- Opening the file was tried: now it is open and has not failed, or it can't be opened. `failed`
-- counts the failures of an open file.
abbrev pub IsTriedReading : {T : Type 0} → (T → ℕ) → Reading T → Type 0
IsTriedReading failed reading.Unopened = ⊥
IsTriedReading failed (reading.Open file) = failed file ≡ 0
IsTriedReading failed reading.Closed = ⊥
IsTriedReading failed reading.Failed = Unit {0}

-- whether the file is not opened yet, and nothing has failed
abbrev pub is_unopened_reading : {T : Type 0} → Reading T → Bool
is_unopened_reading reading.Unopened = true
is_unopened_reading (reading.Open file) = false
is_unopened_reading reading.Closed = false
is_unopened_reading reading.Failed = false

-- whether the file is closed, since its end was found
abbrev pub is_closed : {T : Type 0} → Reading T → Bool
is_closed reading.Unopened = false
is_closed (reading.Open file) = false
is_closed reading.Closed = true
is_closed reading.Failed = false

-- the bytes that a source has left: none of a closed file; of an open file those of `bytes`; else
-- they aren't known
abbrev pub bytes_unread : {T : Type 0} → (T → Option (List ℕ)) → Reading T → Option (List ℕ)
bytes_unread bytes reading.Unopened = None
bytes_unread bytes (reading.Open file) = bytes file
bytes_unread bytes reading.Closed = Some []
bytes_unread bytes reading.Failed = None
