-- Lists of requests, and how the first of one comes home.
use Rattle.std.specs.Prelude.{◌≡◌, ℕ, List, [], ◌∷◌, ◌++◌}
use Rattle.un_req.specs.Request.{Buffer, IsOut, Store}

-- requests in their order, and how many there may be
pub record Row : Type 0 where
  pub requests : List Buffer
  pub room : ℕ

abbrev pub no_requests : ℕ → Row
no_requests room = record { requests = []; room = room }

-- the first of a list is out of a pool
abbrev pub IsFirstOut : Store → List Buffer → Type 0
IsFirstOut store [] = Unit {0}
IsFirstOut store (request ∷ requests) = IsOut store request

-- the first of a list, which has the transfer with this serial, went home
pub record BringsHome (store store' : Store) (row row' : Row) (serial : ℕ) : Type 0 where
  pub request : Buffer
  pub serial_is : request.serial ≡ serial
  pub left : row ≡ record row' { requests = request ∷ row'.requests }
  pub home : store' ≡ record store { home = store.home ++ request.number ∷ [] }
