-- What the answers of `fetch` say of a file and of the buffer. This project's own.
use Rattle.std.specs.Prelude.{◌≡◌, ℕ, ◌<◌, ◌≤◌, Bool, true, false, List, [], length, Option, None, Some, IfSome, IsSomeAnd, Result, Ok, Err}
use Rattle.uvl_outside.specs.declared.files.Fetched.{Fetched}
use Rattle.uvl_outside.specs.declared.files.Fetched.TheVariants.{Whole, Absent, TooLong}
use Rattle.uvl_outside.specs.declared.files.FetchFault.{FetchFault}
use Rattle.uvl_outside.specs.declared.files.FetchFault.TheVariants.{Failed, OutOfMemory}

-- the bytes of the file at each path, or none where there is no file
abbrev pub Contents : Type 0
Contents = List ℕ → Option (List ℕ)

-- the call answered a fault of the host, and no want of memory
abbrev pub fetch_failed : Result Fetched FetchFault → Bool
fetch_failed (Ok _) = false
fetch_failed (Err Failed) = true
fetch_failed (Err OutOfMemory) = false

-- the buffer has all bytes of the file at this path, which are at most `limit`
pub record IsWhole (told : Option Contents) (path : List ℕ) (limit : ℕ) (into : List ℕ) :
    Type 0 where
  pub within : length into ≤ limit
  pub exact : IfSome told (λ contents. contents path ≡ Some into)

-- there is no file at this path
pub record IsAbsent (told : Option Contents) (path into : List ℕ) : Type 0 where
  pub empty : into ≡ []
  pub exact : IfSome told (λ contents. contents path ≡ None)

-- the file at this path has more bytes than `limit`
pub record IsTooLong (told : Option Contents) (path : List ℕ) (limit : ℕ) (into : List ℕ) :
    Type 0 where
  pub empty : into ≡ []
  pub exact : IfSome told (λ contents. IsSomeAnd (contents path) (λ bytes. limit < length bytes))

-- what an answer of `fetch` says of the told contents and of the buffer
abbrev pub Fetches : Option Contents → List ℕ → ℕ → List ℕ → Result Fetched FetchFault → Type 0
Fetches told path limit into (Ok Whole) = IsWhole told path limit into
Fetches told path limit into (Ok Absent) = IsAbsent told path into
Fetches told path limit into (Ok TooLong) = IsTooLong told path limit into
Fetches told path limit into (Err _) = into ≡ []
