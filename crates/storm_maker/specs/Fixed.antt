-- The lines of a storm that are the same for every number.
use Rattle.std.specs.Prelude.{ℕ, List, [], ◌∷◌, ◌++◌, codes}
use Rattle.std.specs.List.{flat_map}

-- the text of a line, with the byte that ends it
abbrev pub line_text : List ℕ → List ℕ
line_text line = line ++ 10 ∷ []

abbrev pub lines_text : List (List ℕ) → List ℕ
lines_text lines = flat_map line_text lines

-- interfaces: an object that is passed on, work in registers alone, and a block device
abbrev pub interface_lines : List (List ℕ)
interface_lines =
    codes "pub struct P {"
    ∷ codes "    pub a: u64,"
    ∷ codes "}"
    ∷ codes "pub trait Pass {"
    ∷ codes "    fn p(&self, o: RRef<P>) -> RpcResult<RRef<P>>;"
    ∷ codes "}"
    ∷ codes "pub trait Spinner {"
    ∷ codes "    fn run(&self, n: u64) -> RpcResult<()>;"
    ∷ codes "}"
    ∷ codes "pub struct Block {"
    ∷ codes "    pub w: [u64; 64],"
    ∷ codes "}"
    ∷ codes "pub trait BDev {"
    ∷ codes "    #[idempotent]"
    ∷ codes "    fn size(&self) -> RpcResult<u64>;"
    ∷ codes "    #[idempotent]"
    ∷ codes "    fn read(&self, n: u64) -> RpcResult<RRef<Block>>;"
    ∷ codes "    #[idempotent]"
    ∷ codes "    fn write(&self, n: u64, b: &RRef<Block>) -> RpcResult<()>;"
    ∷ codes "}"
    ∷ []

-- a domain that gives an object back, and one that passes it on to that
abbrev pub passing_lines : List (List ℕ)
passing_lines =
    codes "domain B: Pass {"
    ∷ codes "    fn p {"
    ∷ codes "        ret r0"
    ∷ codes "    }"
    ∷ codes "}"
    ∷ codes "domain A: Pass {"
    ∷ codes "    import next: Pass"
    ∷ codes "    fn p {"
    ∷ codes "        cap r1, next"
    ∷ codes "        call r1.p(r0) -> r0 else r2, bad"
    ∷ codes "        ret r0"
    ∷ codes "        bad:"
    ∷ codes "        trap"
    ∷ codes "    }"
    ∷ codes "}"
    ∷ []

-- a domain that counts down and keeps each count in a word
abbrev pub spin_lines : List (List ℕ)
spin_lines =
    codes "domain Spin: Spinner {"
    ∷ codes "    words 1"
    ∷ codes "    fn run {"
    ∷ codes "        const r1, 0"
    ∷ codes "        const r2, 1"
    ∷ codes "        top: r0 num, r1 num, r2 num"
    ∷ codes "        jz r0, end"
    ∷ codes "        wput r1, r0"
    ∷ codes "        sub r0, r0, r2"
    ∷ codes "        jmp top"
    ∷ codes "        end:"
    ∷ codes "        ret"
    ∷ codes "    }"
    ∷ codes "}"
    ∷ []

-- the driver of the block device
abbrev pub driver_lines : List (List ℕ)
driver_lines =
    codes "domain Driver: BDev {"
    ∷ codes "    fn size {"
    ∷ codes "        devsize r0"
    ∷ codes "        ret r0"
    ∷ codes "    }"
    ∷ codes "    fn read {"
    ∷ codes "        new r1, Block"
    ∷ codes "        devget r1, r0"
    ∷ codes "        ret r1"
    ∷ codes "    }"
    ∷ codes "    fn write {"
    ∷ codes "        devput r0, r1"
    ∷ codes "        ret"
    ∷ codes "    }"
    ∷ codes "}"
    ∷ []

-- the plan: every domain is loaded once, the driver has a device and a shadow
abbrev pub plan_lines : List (List ℕ)
plan_lines =
    codes "load b = B"
    ∷ codes "load a = A"
    ∷ codes "bind a.next = b"
    ∷ codes "load spin = Spin"
    ∷ codes "serial spin"
    ∷ codes "load drv = Driver"
    ∷ codes "device drv 64"
    ∷ codes "shadow disk = drv restarts 16"
    ∷ []

-- the lines before the clients
abbrev pub fixed_lines : List (List ℕ)
fixed_lines =
    (codes "[idl]" ∷ interface_lines)
    ++ ((codes "[domains]" ∷ passing_lines) ++ (spin_lines ++ (driver_lines ++ ((codes "[plan]" ∷ plan_lines) ++ codes "[clients]" ∷ []))))
