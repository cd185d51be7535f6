-- The arguments of a command line, and the request that they make.
use Rattle.std.specs.Prelude.{◌≡◌, ℕ, ◌-◌, ◌/◌, ◌^◌, List, [], ◌∷◌, map, codes, bytes_eq, string_bytes, if◌then◌else◌, Option, Some, None, IsSome, option_map, Ok}
use Rattle.std.specs.declared.string.String.{String}
use Rattle.std.specs.declared.alloc.Global.{Global}
use Rattle.data_encoding.specs.Base.{Base}
use Rattle.data_encoding.specs.Fields.{Fields, base_of}
use Rattle.basecode.specs.declared.command.Ask.{Ask}
use Rattle.basecode.specs.declared.command.Ask.TheVariants.{Conversion, Question}
use Rattle.basecode.specs.declared.command.Request.{Request as Requested}
use Rattle.basecode.specs.declared.command.Request.TheVariants.{List as ListRequested, Of as OfRequested}
use Rattle.basecode.specs.declared.command.Verb.{Verb}
use Rattle.basecode.specs.declared.command.Verb.TheVariants.{Encode, Decode}
use Rattle.basecode.specs.declared.fault.WordFault.{WordFault}
use Rattle.basecode.specs.declared.fault.WordFault.TheVariants.{Usage, UnknownName}
use Rattle.data_encoding.specs.Named.{fields_named}

-- The bytes of the arguments.
abbrev pub texts : List (String Global) → List (List ℕ)
texts words = map string_bytes words

-- The request of the verb `word`, if it is a verb.
abbrev pub ask_of : List ℕ → Option Ask
ask_of word =
    if bytes_eq word (codes "encode") then Some (Conversion Encode)
    else if bytes_eq word (codes "decode") then Some (Conversion Decode)
    else if bytes_eq word (codes "canonical") then Some Question
    else None

-- A request about an encoding, with the specification of the encoding.
pub record Task : Type 0 where
  pub ask : Ask
  pub fields : Fields

-- A task, if there is a request and the specification is known.
abbrev pub both : Option Ask → Option Fields → Option Task
both (Some ask) (Some fields) = Some (record { ask = ask; fields = fields })
both (Some ask) None = None
both None fields = None

-- The request of the arguments: the names, or a task.
pub data Request : Type 0 where
  Names : Request
  Of : Task → Request

-- The request of the arguments, if they are right. One argument must be `list`. Two must be a verb
-- and a known name.
abbrev pub request_of : List (List ℕ) → Option Request
request_of (word ∷ []) = if bytes_eq word (codes "list") then Some Names else None
request_of (word ∷ name ∷ []) = option_map Of (both (ask_of word) (fields_named name))
request_of _ = None

-- The arguments make the request `ask` about the base, which is built from a specification.
pub record Asks (words : List (List ℕ)) (ask : Ask) (base : Base) : Type 0 where
  pub fields : Fields
  pub is_request : request_of words ≡ Some (Of (record { ask = ask; fields = fields }))
  pub is_built : base_of fields ≡ Ok base

-- The arguments make the request.
abbrev pub AreRequest : List (List ℕ) → Requested → Type 0
AreRequest words ListRequested = request_of words ≡ Some Names
AreRequest words (OfRequested task) = Asks words task.ask task.encoding

-- The arguments have the given fault. A name is unknown only if the first argument is a verb.
-- Otherwise the usage is wrong.
abbrev pub IsWrong : List (List ℕ) → WordFault → Type 0
IsWrong words Usage = (word name : List ℕ) → words ≡ word ∷ name ∷ [] → ask_of word ≡ None
IsWrong words (UnknownName given) =
    (word : List ℕ) × (words ≡ word ∷ given.now ∷ []) × IsSome (ask_of word)
    × (fields_named given.now ≡ None)

-- The greatest length of an input in bytes: `u64::MAX` to encode, and `usize::MAX / 8` to decode.
abbrev pub limit_of : Verb → ℕ
limit_of Encode = 2 ^ 64 - 1
limit_of Decode = (2 ^ 64 - 1) / 8
